use Rattle.std.proofs.Common.{◌≡◌, ◌+◌, ◌≤◌}
use Rattle.choice.specs.Search.{count}
use Rattle.frames.specs.Table.{is_free}
use Rattle.frame_search.proofs.counting.free_in_group.Given as goal

abbrev pub invariant-loop-k : goal.invariant-loop-k
invariant-loop-k l = (l.n ≤ l.k) × (count (is_free l.c) (l.i + l.k) ≡ count (is_free l.c) l.i + l.n)
