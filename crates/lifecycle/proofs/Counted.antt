-- A region has as many frames as pages, and with those of the copies that is all that are in use. Assumes nothing.
use Rattle.std.proofs.Common.{ℕ, zero, suc, ◌+◌, ◌≤◌, ◌≡◌, refl, sym, ◌∙◌, true, false, not, ◌≢◌, List, arith, eqb, eqb-true, eq-eqb, ne_eqb}
use Rattle.layout.specs.Control.{usage_copy}
use Rattle.choice.specs.Choice.{either}
use Rattle.choice.proofs.Counting.{count_ext}
use Rattle.choice.proofs.Paired.{Paired, count_paired, count_all, count-either}
use Rattle.control.specs.Control.{frames, size_of}
use Rattle.control.specs.declared.shadow.Region.{Region}
use Rattle.control.specs.declared.shadow.Region.TheVariants.{Stack, Heap}
use Rattle.frames.specs.Table.{frame_entry_of, usage_of, is_free}
use Rattle.frames.proofs.Claims.{claims_page}
use Rattle.lifecycle.specs.Regions.{holds_page, HeldOnce, OfPage, RegionHeld, Rights, frames_with, frames_of, frames_of_copies, frames_in_use}
use Rattle.lifecycle.proofs.Moves.{one_page_lem}

-- a region's frames are paired with its pages
region_paired : (c : List ℕ) (r : Region) → RegionHeld c r
    → Paired (λ i. eqb (frame_entry_of c i).usage (usage_of r)) (λ k. true) (holds_page c r) (frames c) (size_of c r)
region_paired c r h =
    record {
      one = λ k l e. let o : HeldOnce c r k = h.held k l in record { at = o.frame; below = o.below; passes = o.claimed; only = o.only };
      apart = λ i j k l b. one_page_lem c r i j k (omega (arith, h.most)) (omega (arith, h.most));
      some = λ i l e.
          let o : OfPage c r i = h.only i l (eqb-true _ _ e) in
          record { number = o.page; below = o.below; passes = refl; paired = o.held };
      back = λ i k l q. eq-eqb _ _ (claims_page c i r _ q).usage;
    }

-- so they are as many
pub counted : (c : List ℕ) (r : Region) → RegionHeld c r → frames_of c r ≡ size_of c r
unfolding frames_with
counted c r h = count_paired (region_paired c r h) ∙ count_all (size_of c r)

-- ---- the frames in use

-- a use that is named is that of copies or of a region, or free
uses : (u : ℕ) → u ≤ usage_of Heap → not (eqb u 0) ≡ either (eqb u usage_copy) (either (eqb u (usage_of Stack)) (eqb u (usage_of Heap)))
uses zero l = refl
uses (suc zero) l = refl
uses (suc (suc zero)) l = refl
uses (suc (suc (suc zero))) l = refl
uses (suc (suc (suc (suc u)))) l = absurd (omega arith)

-- a use is one only
one_use : (u v w : ℕ) → v ≢ w → eqb u v ≡ true → eqb u w ≡ false
one_use u v w d h = ne_eqb u w (λ e. d (sym (eqb-true u v h) ∙ e))

-- the frames in use are those of copies and of both regions
pub in_use : (c : List ℕ) → Rights c → frames_in_use c ≡ frames_of_copies c + (frames_of c Stack + frames_of c Heap)
unfolding frames_in_use frames_with is_free
in_use c h =
    let u : ℕ → ℕ = λ i. (frame_entry_of c i).usage in
    let regions = count-either (λ i. eqb (u i) (usage_of Stack)) (λ i. eqb (u i) (usage_of Heap)) (frames c) (λ i. one_use (u i) 2 3 (λ e. omega arith)) in
    let all = count-either (λ i. eqb (u i) usage_copy) (λ i. either (eqb (u i) (usage_of Stack)) (eqb (u i) (usage_of Heap))) (frames c)
    (λ i t. rw (one_use (u i) 1 2 (λ e. omega arith) t, one_use (u i) 1 3 (λ e. omega arith) t)) in
    omega (arith, regions, all, count_ext (λ i. not (eqb (u i) 0)) _ (frames c) (λ i l. uses (u i) (h.few i l)))

-- so they are those of copies and as many as both regions have pages
pub in_use_pages : (c : List ℕ) → Rights c → frames_in_use c ≡ frames_of_copies c + (size_of c Stack + size_of c Heap)
in_use_pages c h = rw (← counted c Stack (h.held Stack), ← counted c Heap (h.held Heap)) (in_use c h)
