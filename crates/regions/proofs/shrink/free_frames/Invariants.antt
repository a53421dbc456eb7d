use Rattle.std.proofs.Common.{ℕ, ◌≡◌, length}
use Rattle.control.specs.declared.shadow.Region.{Region}
use Rattle.regions.specs.Resize.{FramesOf, shrunk}
use Rattle.regions.proofs.shrink.free_frames.Given as goal

abbrev pub invariant-loop-frame : goal.invariant-loop-frame
invariant-loop-frame l =
    (length l.c ≡ length l.initial.c)
    × ((r : Region) (k : ℕ) → FramesOf l.initial.c r k (length l.table) l.table → l.c ≡ shrunk l.initial.c r k l.frame-index)
