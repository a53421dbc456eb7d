-- Listing the frames of n pages of a region, from the k-th on: the entries of the frame table are looked at from the first on, and the first
-- that claims a page is its frame. Assumes nothing.
use Rattle.std.proofs.Common.{ℕ, ◌+◌, ◌-◌, ◌≤◌, ◌<◌, ◌≡◌, refl, sym, ap, ◌∙◌, Bool, true, false, List, arith, leb, eqb, length, get_or, set, length-set, get_or-set_same, get_or-set_other, leb-true, leb-false, le-leb, lt-ltb, le-ltb, eq-eqb, ne_eqb}
use Rattle.std.proofs.Math.Decide.{ℕ_discrete}
use borrow.Author.Tests.{lt-leb}
use Rattle.choice.specs.Choice.{pick}
use Rattle.choice.specs.Search.{seek, lowest, count}
use Rattle.choice.proofs.Tests.{by_test, fails}
use Rattle.choice.proofs.Lowest.{seek_hit, seek_miss, seek_end, lowest_hits}
use Rattle.choice.proofs.Counting.{count_hit, count_grows, count_some, count_ext, count_less}
use Rattle.choice.proofs.Paired.{count_all}
use Rattle.choice.proofs.Every.{every_fails, every_all}
use Rattle.control.specs.Control.{frames}
use Rattle.control.specs.declared.shadow.Region.{Region}
use Rattle.frames.specs.Table.{claims, is_found, found_in, frame_of}
use Rattle.frames.specs.declared.claim.Claim.TheVariants.{Anonymous}
use Rattle.frames.proofs.Claims.{frame_found}
use Rattle.frame_search.proofs.Loops.{search_start}
use Rattle.regions.specs.Resize.{page_at, page_frame, all_held, FramesOf}

-- entry i claims the j-th of the pages
abbrev pub claim : List ℕ → Region → ℕ → ℕ → ℕ → Bool
claim c r k j i = claims c (Anonymous r (page_at r (k + j))) i

-- the list has none of the m frames for the j-th page
abbrev unlisted : ℕ → List ℕ → ℕ → Bool
unlisted m t j = leb m (get_or t j 0)

-- the frame that the list has for a page, x, or else what a search from entry i on finds
abbrev due : (ℕ → Bool) → ℕ → ℕ → ℕ → ℕ
due f m i x = pick (leb m x) (seek f i (m - i)) x

-- the entries before i are looked at: so many pages have no frame yet, and for each page the search goes on or has ended
pub record Listing (c : List ℕ) (r : Region) (k n m i left : ℕ) (t : List ℕ) : Type 0 where
  pub missing : count (unlisted m t) n ≡ left
  pub each : (j : ℕ) → j < n → due (claim c r k j) m i (get_or t j 0) ≡ lowest (claim c r k j) m

-- no entry is looked at yet
pub list_start : (c : List ℕ) (r : Region) (k n m : ℕ) (t : List ℕ) → ((j : ℕ) → j < n → m ≤ get_or t j 0) → Listing c r k n m 0 n t
list_start c r k n m t h =
    record {
      missing = count_ext (unlisted m t) (λ j. true) n (λ j b. le-leb m (get_or t j 0) (h j b)) ∙ count_all n;
      each = λ j b. rw (le-leb m (get_or t j 0) (h j b)) (search_start (claim c r k j) m);
    }

-- entry i is looked at
module _ {c : List ℕ} {r : Region} {k n m i left : ℕ} {t : List ℕ} (s : Listing c r k n m i left t) (l : i < m) where
  -- a page that it does not claim, or that has a frame, stays as it is
  stays : (j : ℕ) → j < n → (m ≤ get_or t j 0 → claim c r k j i ≡ false)
      → due (claim c r k j) m (i + 1) (get_or t j 0) ≡ lowest (claim c r k j) m
  stays j b h =
      by_test (leb m (get_or t j 0))
      (λ e. rw e (seek_miss (claim c r k j) i m l (h (leb-true m (get_or t j 0) e)) ∙ rw e at (s.each j b)))
      (λ e. rw e (rw e at (s.each j b)))

  -- of the n pages it claims none
  pub list_other : ((j : ℕ) → j < n → claim c r k j i ≡ false) → Listing c r k n m (i + 1) left t
  list_other none = record { missing = s.missing; each = λ j d. stays j d (λ h. none j d) }

  -- it claims the x-th alone
  module _ (x : ℕ) (one : (j : ℕ) → j < n → claim c r k j i ≡ eqb j x) where
    -- which has a frame
    pub list_again : get_or t x 0 < m → Listing c r k n m (i + 1) left t
    list_again b =
        record {
          missing = s.missing;
          each =
              λ j d.
              stays j d
              (λ h. one j d ∙ ne_eqb j x (λ e. let z : get_or t j 0 ≡ get_or t x 0 = ap (λ (y : ℕ). get_or t y 0) e in omega arith));
        }

    -- which has none yet: i is its frame
    pub list_found : x < n → n ≤ length t → m ≤ get_or t x 0 → Listing c r k n m (i + 1) (left - 1) (set t x i)
    list_found b w h =
        let same : get_or (set t x i) x 0 ≡ i = get_or-set_same t x i 0 (omega arith) in
        let fewer =
        count_less (unlisted m t) (unlisted m (set t x i)) n x b (le-leb m (get_or t x 0) h) (rw same (lt-leb m i l))
        (λ j d. rw (get_or-set_other t x j i 0 d)) in
        record {
          missing = omega (arith, fewer, s.missing);
          each =
              λ j d.
              elim (ℕ_discrete j x) [
                | yes z ↦
                    rw (z, same, lt-leb m i l)
                    (sym (seek_hit (claim c r k x) i m l (one x b ∙ eq-eqb x x refl)) ∙ rw (le-leb m (get_or t x 0) h) at (s.each x b))
                | no z ↦ rw (get_or-set_other t x j i 0 z) (stays j d (λ y. one j d ∙ ne_eqb j x z))
              ];
        }

-- the frames are all that the table has
module _ {c : List ℕ} {r : Region} {k n m i left : ℕ} {t : List ℕ} (s : Listing c r k n m i left t) (all : m ≡ frames c) where
  -- no page is left without a frame: the list has the frames
  pub list_done : left ≡ 0 → n ≤ length t → FramesOf c r k n t
  unfolding frame_of found_in
  list_done z w =
      record {
        size = w;
        each =
            λ j b.
            let f : unlisted m t j ≡ false =
            fails (unlisted m t j) (λ e. omega (arith, count_hit (unlisted m t) j e, count_grows (unlisted m t) (j + 1) n (omega arith), s.missing)) in
            rw (← all, ← rw f at (s.each j b), lt-ltb (get_or t j 0) m (leb-false m (get_or t j 0) f));
      }

  -- no entry is left, and a page without a frame is: it has none
  pub list_misses : m ≤ i → i ≤ m → 0 < left → false ≡ all_held c r k n
  unfolding all_held frame_of found_in
  list_misses a b p =
      let f = unlisted m t in
      let l : lowest f n < n = count_some f n (omega (arith, s.missing)) in
      let e = rw (lowest_hits f n l) at (s.each (lowest f n) l) in
      let z : lowest (claim c r k (lowest f n)) m ≡ m = sym e ∙ seek_end (claim c r k (lowest f n)) i m a ∙ omega arith in
      sym (every_fails (λ j. is_found (page_frame c r (k + j))) n (lowest f n) l (rw (← all, z, le-ltb m m (omega arith))))

-- where the list has the frames, each page has one
pub list_held : {c : List ℕ} {r : Region} {k n : ℕ} {t : List ℕ} → FramesOf c r k n t → true ≡ all_held c r k n
unfolding all_held
list_held {c} {r} {k} {n} f = sym (every_all (λ j. is_found (page_frame c r (k + j))) n (λ j b. ap is_found (f.each j b)))

-- which is in the frame table
pub listed_within : {c : List ℕ} {r : Region} {k n : ℕ} {t : List ℕ} → FramesOf c r k n t → (j : ℕ) → j < n → get_or t j 0 < frames c
listed_within {c} f j b = (frame_found c _ _ (f.each j b)).below

-- entry i becomes the frame of the x-th page, the last that had none: each page has one
pub last_found : (c : List ℕ) (r : Region) (k n m i left : ℕ) (t : List ℕ) (x : ℕ) → m ≤ get_or t x 0 → claim c r k x i ≡ true
    → Listing c r k n m i left t → i < m → x < n → n ≤ length t → ((j : ℕ) → j < n → claim c r k j i ≡ eqb j x)
    → left - 1 ≡ 0 → m ≡ frames c → all_held c r k n ≡ true
last_found c r k n m i left t x h e s l b w one z all = sym (list_held (list_done (list_found s l x one b w h) all z (rw length-set w)))
