-- Both regions stay right where one grows: each new page has a frame that was free, with the depth as its tag, and only record D reaches above
-- the new pages. Assumes nothing.
use Rattle.std.proofs.Common.{ℕ, suc, ◌+◌, ◌-◌, ◌≤◌, ◌<◌, ◌≡◌, sym, ap, ◌∙◌, true, ◌≢◌, ◌⊎◌, inl, inr, ⊎_elim, List, arith, length, leb-true}
use Rattle.std.proofs.Math.Decide.{dec_lt}
use Rattle.layout.specs.Page.{page_limit, pool_length}
use Rattle.choice.proofs.Tests.{by_test, fails}
use Rattle.refusal.proofs.Checks.{need_pass}
use Rattle.control.specs.Buffers.{Buffers}
use Rattle.control.specs.Control.{frames, invocations, depth, control_valid, size_of, size_in}
use Rattle.control.specs.declared.shadow.Region.{Region}
use Rattle.control.specs.declared.shadow.Region.TheVariants.{Stack, Heap}
use Rattle.frames.specs.Table.{frame_entry_of, usage_of, is_free, free_count}
use Rattle.frames.specs.declared.table.FrameEntry.{FrameEntry}
use Rattle.frames.proofs.Claims.{claims_page, page_claims, free_claims}
use Rattle.regions.specs.Resize.{page_at, region_entry, grown, grow_check, sized}
use Rattle.regions.proofs.Pages.{usage_one, claims_ext}
use Rattle.regions.proofs.Grown.{Held, grown_only, grown_kept, grown-either, grown_held}
use Rattle.lifecycle.specs.Regions.{grown_at, holds_page, HeldOnce, OfPage, RegionHeld, RegionTagged, Rights}
use Rattle.lifecycle.proofs.Depths.{grown_is}
use Rattle.lifecycle.proofs.Moves.{usage_same, free_foreign, one_page_lem, held_kept, Untouched}
use Rattle.lifecycle.proofs.Tagged.{tag_same}
use Rattle.lifecycle.proofs.Sized.{Sized, sized_is, sized_right, sized_rise, sized-depth}
use Rattle.std.specs.Prelude.{Ok}

-- a region's use is one of those named
region_use : (r : Region) → usage_of r ≤ usage_of Heap
region_use Stack = omega arith
region_use Heap = omega arith

-- ---- the frames for the new pages

-- entry i was free and holds a new page
record Taken (c x : List ℕ) (r : Region) (n i : ℕ) : Type 0 where
  free : is_free c i ≡ true
  page : ℕ
  from : size_of c r ≤ page
  below : page < n
  is : frame_entry_of x i ≡ region_entry (depth c) r (page_at r page)

-- of the entries that were free, one holds the k-th page
record NewPage (c x : List ℕ) (r : Region) (k : ℕ) : Type 0 where
  frame : ℕ
  below : frame < frames c
  is : frame_entry_of x frame ≡ region_entry (depth c) r (page_at r k)
  only : (i : ℕ) → is_free c i ≡ true → holds_page x r k i ≡ true → i ≡ frame

-- x has the entries of c, and frames for n pages of the region
record Grows (c x : List ℕ) (r : Region) (n : ℕ) : Type 0 where
  entry : (i : ℕ) → (frame_entry_of x i ≡ frame_entry_of c i) ⊎ Taken c x r n i
  new : (k : ℕ) → size_of c r ≤ k → k < n → NewPage c x r k

-- both buffers with those frames
abbrev grown_to : List ℕ → List ℕ → Region → ℕ → Buffers
grown_to c p r n = grown r (size_of c r) c p (n - size_of c r)

module _ (c p : List ℕ) (r : Region) (n : ℕ) (valid : control_valid c ≡ true) (pool : length p ≡ pool_length (frames c))
    (more : size_of c r ≤ n) (most : n ≤ page_limit) (accepted : grow_check c r n ≡ Ok tt) {x : List ℕ}
    (s : Sized c (grown_to c p r n).control x r n) where
  -- a page that one of the free frames holds
  new_page : (k : ℕ) → Held c (depth c) r (page_at r k) (grown_to c p r n) → NewPage c x r k
  new_page k o =
      record {
        frame = o.frame;
        below = o.below;
        is = s.entry o.frame ∙ o.holds.entry;
        only = λ i f q. o.only i f (sym (claims_ext (grown_to c p r n).control x _ i (s.entry i)) ∙ q);
      }

  -- growing gives that
  grows : Grows c x r n
  unfolding grow_check
  grows =
      let m : ℕ = n - size_of c r in
      let upto : size_of c r + m ≤ page_limit = omega arith in
      let enough : m ≤ free_count c = leb-true _ _ (need_pass _ _ accepted) in
      record {
        entry = λ i.
            by_test (is_free c i)
            (λ f.
            ⊎_elim (λ t. inl (s.entry i ∙ t.entry))
            (λ t.
            inr
            (record {
              free = f;
              page = size_of c r + t.at;
              from = omega arith;
              below = omega (arith, t.below);
              is = s.entry i ∙ t.holds.entry;
            }))
            (grown-either r (size_of c r) c p valid pool m upto enough i))
            (λ f. inl (s.entry i ∙ (grown_kept r (size_of c r) c p valid m upto enough i f).entry));
        new = λ k l b.
            let e : size_of c r + (k - size_of c r) ≡ k = omega arith in
            new_page k (rw e at (grown_held r (size_of c r) c p valid pool m upto enough (k - size_of c r) (omega arith)));
      }

-- ---- the invariant

module _ {c v x : List ℕ} {r : Region} {n : ℕ} (s : Sized c v x r n) (more : size_of c r ≤ n) (most : n ≤ page_limit) (g : Grows c x r n) where
  -- an entry of a page claims it
  entry_claims : (i k : ℕ) → frame_entry_of x i ≡ region_entry (depth c) r (page_at r k) → holds_page x r k i ≡ true
  entry_claims i k e = page_claims x i r (page_at r k) (record { usage = usage_same e; page = ap (λ (y : FrameEntry). y.page.0) e })

  -- an entry that was free claims its new page alone
  taken_one : (i k : ℕ) → k < n → (t : Taken c x r n i) → holds_page x r k i ≡ true → t.page ≡ k
  taken_one i k l t q = one_page_lem x r i t.page k (omega (arith, t.below)) (omega arith) (entry_claims i t.page t.is) q

  module _ (h : RegionHeld c r) where
    -- an entry that stays claims an old page
    old_page : (i k : ℕ) → k < n → i < frames x → frame_entry_of x i ≡ frame_entry_of c i → holds_page x r k i ≡ true
        → (holds_page c r k i ≡ true) × (k < size_of c r)
    old_page i k l b e q =
        let y : holds_page c r k i ≡ true = sym (claims_ext c x _ i e) ∙ q in
        let u : OfPage c r i = h.only i (rw s.count at b) (claims_page c i r _ y).usage in
        let z : u.page ≡ k = one_page_lem c r i u.page k (omega (arith, h.most, u.below)) (omega arith) u.held y in
        (y, omega (arith, u.below))

    -- an old page is held as before
    old_held : (k : ℕ) → k < size_of c r → HeldOnce x r k
    old_held k l =
        held_kept c x r k s.count
        (λ i b.
        ⊎_elim (λ e. claims_ext c x _ i e)
        (λ t.
        fails (holds_page x r k i) (λ q. omega (arith, taken_one i k (omega arith) t q, t.from))
        ∙ sym (free_claims c i t.free _))
        (g.entry i))
        (h.held k l)

    -- a new page is held once
    new_held : (k : ℕ) → size_of c r ≤ k → k < n → HeldOnce x r k
    new_held k l b =
        let o : NewPage c x r k = g.new k l b in
        record {
          frame = o.frame;
          below = rw s.count o.below;
          claimed = entry_claims o.frame k o.is;
          only = λ i m q. ⊎_elim (λ e. absurd (omega (arith, (old_page i k b m e q).1))) (λ t. o.only i t.free q) (g.entry i);
        }

    -- the region's pages stay held
    grows_held : RegionHeld x r
    grows_held =
        record {
          most = omega (arith, s.now);
          held = λ k l.
              elim (dec_lt k (size_of c r)) [ yes b ↦ old_held k b | no b ↦ new_held k (omega arith) (omega (arith, s.now)) ];
          only = λ i l u.
              ⊎_elim
              (λ e.
              let o : OfPage c r i = h.only i (rw s.count at l) (sym (usage_same e) ∙ u) in
              record { page = o.page; below = omega (arith, o.below, s.now); held = claims_ext c x _ i e ∙ o.held })
              (λ t. record { page = t.page; below = rw s.now t.below; held = entry_claims i t.page t.is })
              (g.entry i);
        }

    module _ (t : RegionTagged c r) where
      -- a new page's depth is that of the invocation that grows
      new_depth : (k : ℕ) → size_of c r ≤ k → k < n → grown_at x r k ≡ depth c
      new_depth k l b =
          let last : suc (depth c) ≡ invocations c = omega (arith, s.some) in
          let now : size_in x r (invocations c) ≡ n = rw s.live at s.now in
          grown_is x r k (depth c) (omega (arith, s.live)) (rw last (omega arith))
          (λ i m. omega (arith, s.before r (suc i) (omega arith), t.rise (suc i) (invocations c) (omega arith) (omega arith) (omega arith)))

      -- tags and sizes stay right
      grows_tagged : RegionTagged x r
      grows_tagged =
          record {
            rise = sized_rise s t.rise (λ i some l. omega (arith, t.rise i (invocations c) some (omega arith) (omega arith)));
            tag = λ k i l b q.
                let m : k < n = rw s.now at l in
                ⊎_elim
                (λ e.
                let o = old_page i k m b e q in
                tag_same e ∙ t.tag k i o.1 (rw s.count at b) o.0 ∙ sym (sized-depth s k m o.1))
                (λ u. tag_same u.is ∙ sym (new_depth k (omega (arith, taken_one i k m u q, u.from)) m))
                (g.entry i);
          }

  -- the other region's entries stay
  grows_other : (q : Region) → q ≢ r → (i : ℕ) → Untouched c x q i
  grows_other q d i =
      ⊎_elim inl (λ t. inr (record { was = free_foreign c i q t.free; is = λ u. d (usage_one q r (sym u ∙ usage_same t.is)) }))
      (g.entry i)

  -- every use is one of those named
  grows_few : Rights c → (i : ℕ) → i < frames c → (frame_entry_of x i).usage ≤ usage_of Heap
  grows_few h i l =
      ⊎_elim (λ e. omega (arith, usage_same e, h.few i l)) (λ t. omega (arith, usage_same t.is, region_use r)) (g.entry i)

-- both regions stay right
pub grown_right : (c p : List ℕ) (r : Region) (n : ℕ) → control_valid c ≡ true → length p ≡ pool_length (frames c) → size_of c r ≤ n
    → n ≤ page_limit → grow_check c r n ≡ Ok tt → Rights c
    → Rights (sized (grown r (size_of c r) c p (n - size_of c r)).control r n)
grown_right c p r n valid pool more most accepted h =
    let v : List ℕ = (grown_to c p r n).control in
    let s : Sized c v (sized v r n) r n = sized_is c v r n valid (grown_only r (size_of c r) c p (n - size_of c r)) most in
    let g : Grows c (sized v r n) r n = grows c p r n valid pool more most accepted s in
    sized_right s (grows_held s more most g (h.held r)) (grows_tagged s more most g (h.held r)) (λ q d i b. grows_other s more most g q d i)
    (grows_few s more most g h) h
