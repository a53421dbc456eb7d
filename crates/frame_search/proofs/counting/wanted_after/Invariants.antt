use Rattle.std.proofs.Common.{◌≡◌, ◌+◌}
use Rattle.choice.specs.Search.{count}
use Rattle.frames.specs.Table.{is_free}
use Rattle.frame_search.proofs.counting.wanted_after.Given as goal

abbrev pub invariant-loop-i : goal.invariant-loop-i
invariant-loop-i l = l.left + count (is_free l.c) l.i ≡ l.n + count (is_free l.c) l.from
