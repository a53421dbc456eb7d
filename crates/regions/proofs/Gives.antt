-- What a resize promises of its answer and of both buffers afterwards. Assumes nothing.
use Rattle.std.proofs.Common.{◌≡◌, ℕ, List}
use Rattle.refusal.specs.Checks.{Check}
use Rattle.regions.specs.Resize.{Resized}

-- the answer x, the control block c and the pool p are what the outcome says
abbrev pub Gives : Resized → Check → List ℕ → List ℕ → Type 0
Gives o x c p = (x ≡ o.answer) × ((c ≡ o.after.control) × (p ≡ o.after.pool))
