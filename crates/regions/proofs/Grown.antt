-- Growing a region. One page takes the lowest free frame: its entry is the page's, its bytes are zeros, and all else is as it was.
-- For more pages the same by induction: the frames that they take were all free before. Assumes nothing.
use Rattle.std.proofs.Common.{ℕ, zero, suc, ◌+◌, ◌*◌, ◌≤◌, ◌<◌, ◌≡◌, refl, sym, ap, ◌∙◌, true, false, ◌≢◌, ◌⊎◌, inl, inr, ⊎_elim, List, arith, length, ne_eqb}
use Rattle.std.proofs.Math.Decide.{dec_lt, ℕ_discrete}
use Rattle.layout.specs.Page.{page_size, page_limit, pool_length}
use Rattle.words.specs.Words.{bytes_at, splice, zeros}
use Rattle.words.proofs.Splice.{length-splice}
use Rattle.words.proofs.Run.{run_before, run_behind, run_back, length-zeros}
use Rattle.choice.specs.Search.{lowest}
use Rattle.choice.proofs.Tests.{by_test, differ}
use Rattle.snapshot.specs.declared.accounts.Account.{Account}
use Rattle.control.specs.Buffers.{Buffers}
use Rattle.control.specs.Control.{frames, depth, control_valid}
use Rattle.control.specs.declared.shadow.Region.{Region}
use Rattle.control.proofs.Facts.{ControlFacts, control_facts}
use Rattle.pages.specs.declared.Page.{Page}
use Rattle.frames.specs.Table.{frame_entry_of, put_frame_entry, usage_of, holds, claims, is_free, free_frame, free_count}
use Rattle.frames.specs.declared.table.FrameEntry.{FrameEntry}
use Rattle.frames.specs.declared.claim.Claim.TheVariants.{Copy, Anonymous}
use Rattle.frames.proofs.Entries.{EntryRange, entry_other, entry_same}
use Rattle.frames.proofs.OnlyTable.{OnlyTable, table_same, table_put, table_then, table_frames, table_invocations, table_valid}
use Rattle.frames.specs.declared.claim.End.TheVariants.{Lowest}
use Rattle.frames.proofs.Found.{First}
use Rattle.frames.proofs.Claims.{unused, claims-holds, claims_page, free_claims}
use Rattle.frames.proofs.Free.{free_some, free_first, free_count_taken}
use Rattle.regions.specs.Resize.{page_at, region_entry, grow_in, grow_one, grown}
use Rattle.regions.proofs.Pages.{page_below, page_one, usage_some, page_range, page_no_copy, entry_inside, free_ext, claims_ext}
use Rattle.std.specs.Prelude.{None, Option, Some}
use Rattle.pages.specs.declared.Frame.{Frame}

-- ---- one page

-- whatever frame is found, nothing but the frame table changes
in_only : (r : Region) (q : Page) (w : Buffers) (o : Option Frame) → OnlyTable w.control (grow_in r q w o).control
in_only r q w (Some f) = table_put w.control f.0 (region_entry (depth w.control) r q)
in_only r q w None = table_same w.control

-- and the pool keeps its length
in_pool : (r : Region) (q : Page) (w : Buffers) (o : Option Frame) → length (grow_in r q w o).pool ≡ length w.pool
in_pool r q w (Some f) = length-splice w.pool (page_size * f.0) (zeros page_size)
in_pool r q w None = refl

-- frame i has this entry and these bytes
pub record Shows (v : Buffers) (i : ℕ) (e : FrameEntry) (bs : List ℕ) : Type 0 where
  pub entry : frame_entry_of v.control i ≡ e
  pub bytes : bytes_at page_size v.pool (page_size * i) ≡ bs

-- the frame that a page takes next: the lowest that is free
abbrev pub next_free : Buffers → ℕ
next_free w = lowest (is_free w.control) (frames w.control)

-- v is w with one page more, in that frame
pub record Took (r : Region) (q : Page) (w v : Buffers) : Type 0 where
  pub first : First (is_free w.control) (frames w.control) (next_free w)
  pub control : v.control ≡ put_frame_entry w.control (next_free w) (region_entry (depth w.control) r q)
  pub pool : v.pool ≡ splice w.pool (page_size * next_free w) (zeros page_size)

-- where a frame is free, the lowest is taken
one_took : (r : Region) (q : Page) (w : Buffers) → 1 ≤ free_count w.control → Took r q w (grow_one r q w)
unfolding grow_one
one_took r q w h =
    let e : free_frame Lowest w.control ≡ Some (record { 0 = next_free w }) = free_some w.control h in
    record { first = free_first w.control (record { 0 = next_free w }) e; control = rw e; pool = rw e }

module _ {r : Region} {q : Page} {w v : Buffers} (t : Took r q w v) where
  -- another frame's entry is as it was
  took_entry_other : (i : ℕ) → i ≢ next_free w → frame_entry_of v.control i ≡ frame_entry_of w.control i
  took_entry_other i h = rw t.control (entry_other w.control (next_free w) _ i h)

  -- and its bytes
  took_bytes_other : (i : ℕ) → i ≢ next_free w → bytes_at page_size v.pool (page_size * i) ≡ bytes_at page_size w.pool (page_size * i)
  took_bytes_other i h =
      let z : length (zeros page_size) ≡ page_size = length-zeros page_size in
      rw t.pool
      (elim (dec_lt i (next_free w)) [
        | yes p ↦ run_before page_size w.pool (page_size * next_free w) (zeros page_size) (page_size * i) (omega arith)
        | no p ↦ run_behind page_size w.pool (page_size * next_free w) (zeros page_size) (page_size * i) (omega arith)
      ])

  -- so it shows what it showed
  took_other : {i : ℕ} {e : FrameEntry} {bs : List ℕ} → i ≢ next_free w → Shows w i e bs → Shows v i e bs
  took_other {i} d s = record { entry = took_entry_other i d ∙ s.entry; bytes = took_bytes_other i d ∙ s.bytes }

  module _ (ok : control_valid w.control ≡ true) (l : q.0 < page_limit) where
    -- the entry written is in range
    took_range : EntryRange (region_entry (depth w.control) r q)
    took_range = let f : ControlFacts w.control = control_facts w.control ok in page_range _ r q (omega arith) (omega arith)

    -- the frame shows the page, of zeros
    took_shows : length w.pool ≡ pool_length (frames w.control)
        → Shows v (next_free w) (region_entry (depth w.control) r q) (zeros page_size)
    took_shows h =
        let b : next_free w < frames w.control = t.first.below in
        let z : length (zeros page_size) ≡ page_size = length-zeros page_size in
        record {
          entry = rw t.control (entry_same w.control (next_free w) _ took_range (entry_inside w.control (next_free w) ok b));
          bytes = rw t.pool (rw z at (run_back w.pool (page_size * next_free w) (zeros page_size) (omega arith)));
        }

    -- one frame fewer is free
    took_count : suc (free_count v.control) ≡ free_count w.control
    took_count =
        rw t.control
        (free_count_taken w.control (next_free w) _ took_range (entry_inside w.control (next_free w) ok t.first.below) t.first.below t.first.passes (usage_some r))

-- ---- n pages, from the k-th on

-- frame i is as it was
abbrev pub Kept : List ℕ → List ℕ → Buffers → ℕ → Type 0
Kept c p v i = Shows v i (frame_entry_of c i) (bytes_at page_size p (page_size * i))

-- frame i holds a page of the region, of zeros
abbrev pub Holds : ℕ → Region → Page → Buffers → ℕ → Type 0
Holds d r q v i = Shows v i (region_entry d r q) (zeros page_size)

-- frame i holds one of the n pages
pub record New (d : ℕ) (r : Region) (k n : ℕ) (v : Buffers) (i : ℕ) : Type 0 where
  pub at : ℕ
  pub below : at < n
  pub holds : Holds d r (page_at r (k + at)) v i

-- of the frames that were free, one holds the page
pub record Held (c : List ℕ) (d : ℕ) (r : Region) (q : Page) (v : Buffers) : Type 0 where
  pub frame : ℕ
  pub below : frame < frames c
  pub holds : Holds d r q v frame
  pub only : (i : ℕ) → is_free c i ≡ true → claims v.control (Anonymous r q) i ≡ true → i ≡ frame

module _ (c : List ℕ) (i d : ℕ) (r : Region) (q : Page) (e : frame_entry_of c i ≡ region_entry d r q) where
  -- a frame with a page is in use
  page_used : is_free c i ≡ false
  unfolding is_free
  page_used = ap unused e ∙ ne_eqb (usage_of r) 0 (usage_some r)

  -- and claims no other page of the region
  page_claimed : (q' : Page) → claims c (Anonymous r q') i ≡ true → q.0 ≡ q'.0
  page_claimed q' h = sym (ap (λ (x : FrameEntry). x.page.0) e) ∙ (claims_page c i r q' h).page

module _ (r : Region) (k : ℕ) (c p : List ℕ) where
  -- nothing but the frame table changes
  pub grown_only : (n : ℕ) → OnlyTable c (grown r k c p n).control
  unfolding grown grow_one
  grown_only zero = table_same c
  grown_only (suc n) = table_then (grown_only n) (in_only r (page_at r (k + n)) (grown r k c p n) (free_frame Lowest (grown r k c p n).control))

  -- the pool keeps its length
  pub grown_pool : (n : ℕ) → length (grown r k c p n).pool ≡ length p
  unfolding grown grow_one
  grown_pool zero = refl
  grown_pool (suc n) = in_pool r (page_at r (k + n)) (grown r k c p n) (free_frame Lowest (grown r k c p n).control) ∙ grown_pool n

  module _ (ok : control_valid c ≡ true) where
    -- the control block stays valid
    grown_valid : (n : ℕ) → control_valid (grown r k c p n).control ≡ true
    grown_valid n = table_valid (grown_only n) ∙ ok

    -- so many frames fewer are free
    grown-count : (n : ℕ) → k + n ≤ page_limit → n ≤ free_count c → free_count (grown r k c p n).control + n ≡ free_count c
    unfolding grown
    grown-count zero h m = omega arith
    grown-count (suc n) h m =
        let w : Buffers = grown r k c p n in
        let e : free_count w.control + n ≡ free_count c = grown-count n (omega arith) (omega arith) in
        let t : Took r (page_at r (k + n)) w (grow_one r (page_at r (k + n)) w) = one_took r (page_at r (k + n)) w (omega arith) in
        omega (arith, took_count t (grown_valid n) (page_below r (k + n) (omega arith)))

    -- the page after n takes the lowest frame that is free then
    pub grown_took : (n : ℕ) → k + n < page_limit → n < free_count c → Took r (page_at r (k + n)) (grown r k c p n) (grown r k c p (suc n))
    unfolding grown
    grown_took n h m = one_took r (page_at r (k + n)) (grown r k c p n) (omega (arith, grown-count n (omega arith) (omega arith)))

    -- a frame in use is as it was
    pub grown_kept : (n : ℕ) → k + n ≤ page_limit → n ≤ free_count c → (i : ℕ) → is_free c i ≡ false → Kept c p (grown r k c p n) i
    unfolding grown
    grown_kept zero h m i f = record { entry = refl; bytes = refl }
    grown_kept (suc n) h m i f =
        let s : Kept c p (grown r k c p n) i = grown_kept n (omega arith) (omega arith) i f in
        let t = grown_took n (omega arith) (omega arith) in
        took_other t
        (λ e. differ (is_free (grown r k c p n).control i) (rw e t.first.passes) (free_ext c (grown r k c p n).control i s.entry ∙ f)) s

    -- frame i is the one that one of the n pages takes
    record Taken (n i : ℕ) : Type 0 where
      at : ℕ
      below : at < n
      is : i ≡ next_free (grown r k c p at)

    -- each frame is as it was, or one of those
    taken_or : (n : ℕ) → k + n ≤ page_limit → n ≤ free_count c → (i : ℕ) → Kept c p (grown r k c p n) i ⊎ Taken n i
    unfolding grown
    taken_or zero h m i = inl (record { entry = refl; bytes = refl })
    taken_or (suc n) h m i =
        elim (ℕ_discrete i (next_free (grown r k c p n))) [
          | yes e ↦ inr (record { at = n; below = omega arith; is = e })
          | no d ↦
              ⊎_elim (λ s. inl (took_other (grown_took n (omega arith) (omega arith)) d s))
              (λ s. inr (record { at = s.at; below = omega arith; is = s.is })) (taken_or n (omega arith) (omega arith) i)
        ]

    module _ (long : length p ≡ pool_length (frames c)) where
      -- the frame that a page takes holds it
      taken_holds : (n : ℕ) → k + n ≤ page_limit → n ≤ free_count c → (j : ℕ) → j < n
          → Holds (depth c) r (page_at r (k + j)) (grown r k c p n) (next_free (grown r k c p j))
      taken_holds zero h m j l = absurd (omega arith)
      taken_holds (suc n) h m j l =
          let w : Buffers = grown r k c p n in
          let t = grown_took n (omega arith) (omega arith) in
          elim (ℕ_discrete j n) [
            | yes e ↦
                rw e
                (rw (table_invocations (grown_only n))
                at (took_shows t (grown_valid n) (page_below r (k + n) (omega arith)) (omega (arith, grown_pool n, table_frames (grown_only n)))))
            | no d ↦
                let s = taken_holds n (omega arith) (omega arith) j (omega arith) in
                took_other t (λ e. differ (is_free w.control (next_free w)) t.first.passes (rw e at (page_used w.control _ _ r _ s.entry))) s
          ]

      -- each frame is as it was, or holds one of the pages
      pub grown-either : (n : ℕ) → k + n ≤ page_limit → n ≤ free_count c → (i : ℕ)
          → Kept c p (grown r k c p n) i ⊎ New (depth c) r k n (grown r k c p n) i
      grown-either n h m i =
          ⊎_elim inl (λ s. inr (record { at = s.at; below = s.below; holds = rw s.is (taken_holds n h m s.at s.below) }))
          (taken_or n h m i)

      -- each of the pages is held by one frame, of those that were free
      pub grown_held : (n : ℕ) → k + n ≤ page_limit → n ≤ free_count c → (j : ℕ) → j < n
          → Held c (depth c) r (page_at r (k + j)) (grown r k c p n)
      grown_held n h m j l =
          let v : List ℕ = (grown r k c p n).control in
          record {
            frame = next_free (grown r k c p j);
            below = omega (arith, (grown_took j (omega arith) (omega arith)).first.below, table_frames (grown_only j));
            holds = taken_holds n h m j l;
            only = λ i f q.
                ⊎_elim (λ s. absurd (differ _ q (free_claims v i (free_ext c v i s.entry ∙ f) _)))
                (λ s.
                let e : k + s.at ≡ k + j =
                page_one r (k + s.at) (k + j) (omega (arith, s.below)) (omega arith)
                (page_claimed v i (depth c) r (page_at r (k + s.at)) (rw s.is (taken_holds n h m s.at s.below).entry) (page_at r (k + j)) q) in
                let z : s.at ≡ j = omega arith in
                s.is ∙ ap (λ (x : ℕ). next_free (grown r k c p x)) z)
                (taken_or n h m i);
          }

      -- the claim of each copy is as it was: the pages take free frames, and none is a copy
      pub grown_copies : (n : ℕ) → k + n ≤ page_limit → n ≤ free_count c → (a : Account) (q : Page) (i : ℕ)
          → claims (grown r k c p n).control (Copy a q) i ≡ claims c (Copy a q) i
      grown_copies n h m a q i =
          let v : Buffers = grown r k c p n in
          by_test (is_free c i)
          (λ f.
          ⊎_elim (λ s. claims_ext c v.control (Copy a q) i s.entry)
          (λ s.
          claims-holds v.control i (Copy a q)
          ∙ ap (λ (x : FrameEntry). holds (Copy a q) x) s.holds.entry
          ∙ page_no_copy (depth c) r (page_at r (k + s.at)) a q
          ∙ sym (free_claims c i f (Copy a q)))
          (grown-either n h m i))
          (λ f. claims_ext c v.control (Copy a q) i (grown_kept n h m i f).entry)
