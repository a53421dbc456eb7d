use Rattle.std.proofs.Common.{◌≡◌, ◌<◌, length}
use Rattle.regions.proofs.shrink.list_frames.Given as goal
use Rattle.regions.proofs.Listed.{Listing}

abbrev pub invariant-loop-i : goal.invariant-loop-i
invariant-loop-i l = (0 < l.left) × (length l.table ≡ l.n) × Listing l.c l.r l.pages l.n l.frames l.i l.left l.table
