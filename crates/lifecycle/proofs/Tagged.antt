-- What is said of a region's tags and sizes stays: where there is no page more, sizes do not fall and each page keeps its depth; so where the
-- sizes stay and further records repeat the last. Assumes nothing.
use Rattle.std.proofs.Common.{ℕ, suc, ◌-◌, ◌≤◌, ◌<◌, ◌≡◌, sym, ap, ◌∙◌, ⊎_elim, List, arith, ltb}
use Rattle.std.proofs.Math.Decide.{dec_lt}
use Rattle.control.specs.Control.{frames, invocations, size_of, size_in}
use Rattle.control.specs.declared.shadow.Region.{Region}
use Rattle.frames.specs.declared.table.FrameEntry.{FrameEntry}
use Rattle.frames.proofs.Claims.{claims_page}
use Rattle.regions.proofs.Pages.{claims_ext}
use Rattle.lifecycle.specs.Regions.{grown_at, Rise, RegionTagged}
use Rattle.lifecycle.proofs.Depths.{grown-le, grown_kept}
use Rattle.lifecycle.proofs.Moves.{Moves, Same, same_moves}

-- equal entries have one tag
pub tag_same : {e e' : FrameEntry} → e ≡ e' → e.tag ≡ e'.tag
tag_same h = ap (λ (x : FrameEntry). x.tag) h

-- ---- no page more

-- tags stay right
pub moved_tagged : {c c' : List ℕ} {r : Region} → Moves c c' r → Rise c' r → ((k : ℕ) → k < size_of c' r → grown_at c' r k ≡ grown_at c r k)
    → RegionTagged c r → RegionTagged c' r
moved_tagged {c} {c'} {r} m rise depths h =
    record {
      rise = rise;
      tag = λ k i l b q.
          let a : i < frames c = rw m.count at b in
          ⊎_elim
          (λ s.
          tag_same s.same ∙ h.tag k i (omega (arith, m.fewer)) a (sym (claims_ext c c' _ i s.same) ∙ q)
          ∙ sym (depths k l))
          (λ g. absurd (g.gone (claims_page c' i r _ q).usage)) (m.entry i a);
    }

-- ---- the sizes stay

-- the sizes stay, and those of further records are the last one's
pub record Repeats (c c' : List ℕ) (r : Region) : Type 0 where
  pub live : 1 ≤ invocations c
  pub more : invocations c ≤ invocations c'
  pub sizes : (j : ℕ) → j ≤ invocations c → size_in c' r j ≡ size_in c r j
  pub further : (j : ℕ) → invocations c ≤ j → j ≤ invocations c' → size_in c' r j ≡ size_of c r

-- there are no further records where D stays
pub no_further : {c c' : List ℕ} {r : Region} → 1 ≤ invocations c → invocations c' ≡ invocations c
    → ((j : ℕ) → j ≤ invocations c → size_in c' r j ≡ size_in c r j) → Repeats c c' r
no_further {c} live same sizes =
    record {
      live = live;
      more = omega arith;
      sizes = sizes;
      further = λ j l m. let z : j ≡ invocations c = omega arith in rw z (sizes (invocations c) (omega arith));
    }

module _ {c c' : List ℕ} {r : Region} (a : Repeats c c' r) where
  -- sizes never fall
  repeats_rise : Rise c r → Rise c' r
  repeats_rise h i j some l few =
      elim (dec_lt (invocations c) i) [
        | yes p ↦ omega (arith, a.further i (omega arith) (omega arith), a.further j (omega arith) few)
        | no p ↦
            elim (dec_lt (invocations c) j) [
              | yes q ↦ omega (arith, a.sizes i (omega arith), a.further j (omega arith) few, h i (invocations c) some (omega arith) (omega arith))
              | no q ↦ omega (arith, a.sizes i (omega arith), a.sizes j (omega arith), h i j some l (omega arith))
            ]
      ]

  -- each page's depth stays
  repeats_depths : (k : ℕ) → k < size_of c r → grown_at c' r k ≡ grown_at c r k
  repeats_depths k l =
      let n : suc (invocations c - 1) ≡ invocations c = omega (arith, a.live) in
      let g : grown_at c r k ≤ invocations c - 1 = grown-le c r k (invocations c - 1) (rw n l) in
      grown_kept c r k c' (omega arith) (omega (arith, a.more)) (λ j b. ap (λ (x : ℕ). ltb k x) (a.sizes (suc j) (omega arith)))

  -- tags stay right where the region's entries stay too
  pub repeats_tagged : Same c c' r → RegionTagged c r → RegionTagged c' r
  repeats_tagged s h = moved_tagged (same_moves s) (repeats_rise h.rise) (λ k l. repeats_depths k (rw s.size at l)) h
