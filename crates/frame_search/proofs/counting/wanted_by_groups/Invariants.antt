use Rattle.std.proofs.Common.{◌≡◌, ◌+◌, ◌*◌}
use Rattle.choice.specs.Search.{count}
use Rattle.frames.specs.Table.{is_free}
use Rattle.frame_search.proofs.counting.wanted_by_groups.Given as goal

abbrev pub invariant-loop-g : goal.invariant-loop-g
invariant-loop-g l = l.left + count (is_free l.c) (l.from + 16 * l.g) ≡ l.n + count (is_free l.c) l.from
