use Rattle.std.proofs.Common.{ℕ, ◌≡◌, true, length}
use Rattle.choice.specs.Search.{every}
use Rattle.control.specs.declared.shadow.Region.{Region}
use Rattle.regions.specs.Resize.{FramesOf}
use Rattle.regions.proofs.Shrunk.{may}
use Rattle.regions.proofs.shrink.all_leave.Given as goal

abbrev pub invariant-loop-frame : goal.invariant-loop-frame
invariant-loop-frame l = (r : Region) (k : ℕ) → FramesOf l.c r k (length l.table) l.table → every (may l.c r k) l.frame-index ≡ true
