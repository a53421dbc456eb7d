-- `regions::shrink::free_frames` meets its contract. The loop's invariant: the frames before the next are freed. Assumes nothing.
use Rattle.std.proofs.Common.{◌≡◌, ℕ, ◌+◌, List, refl, sym, ap, ◌∙◌, add-one, arith, length}
use Rattle.control.specs.declared.shadow.Region.{Region}
use Rattle.frames.specs.Table.{free_frame_entry}
use Rattle.regions.specs.Resize.{shrunk, page_frame, free_found}
use Rattle.regions.proofs.Shrunk.{FoundAt}
use Rattle.regions.proofs.shrink.free_frames.Goals as goal

-- no frame is freed yet
start : (c : List ℕ) (r : Region) (k : ℕ) → c ≡ shrunk c r k 0
unfolding shrunk
start c r k = refl

-- frame i of the next page is freed
turn : (c₀ : List ℕ) (r : Region) (k j : ℕ) (c : List ℕ) → c ≡ shrunk c₀ r k j → (i : ℕ) → FoundAt (page_frame c₀ r (k + j)) i
    → (c' : List ℕ) → c' ≡ free_frame_entry c i → c' ≡ shrunk c₀ r k (j + 1)
unfolding shrunk
turn c₀ r k j c now i at c' e = rw add-one (e ∙ rw now (ap (λ x. free_found (shrunk c₀ r k j) x) (sym at)))

pub loop-frame-init : goal.loop-frame-init
loop-frame-init c = (refl, λ r k f. start _ r k)

pub loop-frame-preserved : goal.loop-frame-preserved
loop-frame-preserved c = (
  c.free_frame_entry.auto.c ∙ c.loop-frame.invariant.0,
  λ r k f. turn _ r k _ _ (c.loop-frame.invariant.1 r k f) _ (f.each _ c.loop-frame-test.true) _ c.free_frame_entry.ensures,
)

pub returns : goal.returns
returns c =
    let e : c.loop-frame.frame-index ≡ length c.args.table.now = omega arith in
    λ r k f. rw e at (c.loop-frame.invariant.1 r k f)
