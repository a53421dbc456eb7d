-- A control block c with another frame table, g, and then another size n of region r: what its records read, that the other region stays right,
-- and what becomes of the sizes and depths of this one. Assumes nothing.
use Rattle.std.proofs.Common.{ℕ, suc, ◌+◌, ◌-◌, ◌≤◌, ◌<◌, ◌≡◌, sym, ap, ◌∙◌, true, ◌≢◌, List, arith, ltb, lt-ltb}
use Rattle.std.proofs.Math.Decide.{ℕ_discrete}
use Rattle.layout.specs.Control.{live_limit}
use Rattle.layout.specs.Page.{page_limit}
use Rattle.control.specs.Control.{frames, invocations, pages_of, control_valid, size_of, size_in}
use Rattle.control.specs.declared.shadow.Region.{Region}
use Rattle.control.specs.declared.shadow.Region.TheVariants.{Stack, Heap}
use Rattle.control.specs.declared.shadow.Invocation.{Invocation}
use Rattle.control.proofs.Facts.{ControlFacts, control_facts}
use Rattle.control.proofs.Records.{OnlyRecord, invocation_other, header_kept, table_kept, pages_only, pages_other, pages_same}
use Rattle.frames.specs.Table.{frame_entry_at, frame_field, frame_entry_of, usage_of}
use Rattle.frames.proofs.OnlyTable.{OnlyTable, table_frames, table_invocations, table_invocation}
use Rattle.regions.specs.Resize.{sized}
use Rattle.lifecycle.specs.Regions.{grown_at, Rise, RegionHeld, RegionTagged, Rights}
use Rattle.lifecycle.proofs.Depths.{grown-le, grown_kept}
use Rattle.lifecycle.proofs.Moves.{Untouched, Same, same_held}
use Rattle.lifecycle.proofs.Tagged.{Repeats, no_further, repeats_tagged}

-- x is c with the entries of g and n pages of the region
pub record Sized (c g x : List ℕ) (r : Region) (n : ℕ) : Type 0 where
  pub some : 1 ≤ invocations c
  pub live : invocations x ≡ invocations c
  pub count : frames x ≡ frames c
  pub entry : (i : ℕ) → frame_entry_of x i ≡ frame_entry_of g i
  pub before : (q : Region) (j : ℕ) → j < invocations c → size_in x q j ≡ size_in c q j
  pub now : size_of x r ≡ n
  pub other : (q : Region) → q ≢ r → size_of x q ≡ size_of c q

-- ---- the size written

module _ (c g : List ℕ) (r : Region) (n : ℕ) (valid : control_valid c ≡ true) (o : OnlyTable c g) (most : n ≤ page_limit) where
  -- where it is written
  record_only : OnlyRecord (invocations g) g (sized g r n)
  record_only = pages_only g (invocations g) r n

  -- the live invocations stay
  size_live : invocations (sized g r n) ≡ invocations g
  size_live = header_kept (invocations g) record_only 4 4 (omega arith)

  -- a field of an entry stays
  field_sized : (w f i : ℕ) → invocations g ≤ live_limit → frame_field w f (sized g r n) i ≡ frame_field w f g i
  unfolding frame_field
  field_sized w f i l = table_kept (invocations g) record_only l w (frame_entry_at i + f) (omega arith)

  -- all of it
  pub sized_is : Sized c g (sized g r n) r n
  sized_is =
      let f : ControlFacts c = control_facts c valid in
      let e : invocations g ≡ invocations c = table_invocations o in
      let l : invocations g ≤ live_limit = omega arith in
      record {
        some = f.some_live;
        live = size_live ∙ e;
        count = header_kept (invocations g) record_only 4 0 (omega arith) ∙ table_frames o;
        entry = λ i. rw (field_sized 1 0 i l, field_sized 1 1 i l, field_sized 2 2 i l, field_sized 2 4 i l, field_sized 2 6 i l);
        before = λ q j b.
            ap (λ (x : Invocation). pages_of x q)
            (invocation_other (invocations g) record_only j (λ z. omega arith) ∙ table_invocation o j (omega arith));
        now = rw size_live (pages_same g (invocations g) r n l (omega (arith, o.size)) (omega arith));
        other = λ q d.
            rw (size_live, ← e)
            (pages_other g (invocations g) r n q d ∙ ap (λ (x : Invocation). pages_of x q) (table_invocation o (invocations g) l));
      }

-- ---- one region and the other

-- what holds of one region and of every other holds of each
pub by_region : {P : Region → Type 0} (r : Region) → P r → ((q : Region) → q ≢ r → P q) → (q : Region) → P q
by_region Stack y n Stack = y
by_region Stack y n Heap = n Heap (λ e. omega (arith, ap usage_of e))
by_region Heap y n Stack = n Stack (λ e. omega (arith, ap usage_of e))
by_region Heap y n Heap = y

module _ {c g x : List ℕ} {r : Region} {n : ℕ} (s : Sized c g x r n) where
  -- the other region's size and entries stay
  other_same : (q : Region) → q ≢ r → ((i : ℕ) → i < frames c → Untouched c x q i) → Same c x q
  other_same q d entry = record { count = s.count; size = s.other q d; entry = entry }

  -- and all its sizes
  other_repeats : (q : Region) → q ≢ r → Repeats c x q
  other_repeats q d =
      no_further s.some s.live
      (λ j l.
      elim (ℕ_discrete j (invocations c)) [
        | yes e ↦ rw e (rw s.live at (s.other q d))
        | no z ↦ s.before q j (omega arith)
      ])

  -- both regions are right where this one's pages are, its tags stay right, and the other's entries stay
  pub sized_right : RegionHeld x r → (RegionTagged c r → RegionTagged x r) → ((q : Region) → q ≢ r → (i : ℕ) → i < frames c → Untouched c x q i)
      → ((i : ℕ) → i < frames c → (frame_entry_of x i).usage ≤ usage_of Heap) → Rights c → Rights x
  sized_right held tagged entry few h =
      record {
        held = by_region r held (λ q d. same_held (other_same q d (entry q d)) (h.held q));
        tagged =
            by_region {P = λ q. RegionTagged c q → RegionTagged x q} r tagged
            (λ q d. repeats_tagged (other_repeats q d) (other_same q d (entry q d))) Stack h.tagged;
        few = λ i l. few i (rw s.count at l);
      }

  -- ---- tags and sizes

  -- sizes never fall, where none before is above the size written
  pub sized_rise : Rise c r → ((i : ℕ) → 1 ≤ i → i < invocations c → size_in c r i ≤ n) → Rise x r
  sized_rise h most i j some l few =
      elim (ℕ_discrete j (invocations x)) [
        | yes e ↦
            elim (ℕ_discrete i j) [
              | yes z ↦ rw z (omega arith)
              | no z ↦ rw e (omega (arith, s.before r i (omega arith), most i some (omega arith)))
            ]
        | no d ↦ omega (arith, s.before r i (omega arith), s.before r j (omega arith), h i j some l (omega arith))
      ]

  -- a page within the old size and the new keeps its depth
  pub sized-depth : (k : ℕ) → k < n → k < size_of c r → grown_at x r k ≡ grown_at c r k
  sized-depth k b l =
      let last : suc (invocations c - 1) ≡ invocations c = omega arith in
      let below : grown_at c r k ≤ invocations c - 1 = grown-le c r k (invocations c - 1) (rw last l) in
      grown_kept c r k x (omega arith) (omega arith)
      (λ j m.
      elim (ℕ_discrete j (invocations c - 1)) [
        | yes e ↦
            let now : size_in x r (invocations c) ≡ n = rw s.live at s.now in
            rw (e, last) (lt-ltb k (size_in x r (invocations c)) (omega arith) ∙ sym (lt-ltb k (size_of c r) l))
        | no d ↦ ap (λ (y : ℕ). ltb k y) (s.before r (suc j) (omega arith))
      ])
