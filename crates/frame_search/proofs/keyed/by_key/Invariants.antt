use Rattle.std.proofs.Common.{◌≡◌, ◌-◌, ◌+◌, ◌*◌}
use Rattle.choice.specs.Search.{seek}
use Rattle.frame_search.specs.Match.{copy_of}
use Rattle.frame_search.proofs.keyed.by_key.Given as goal

abbrev pub invariant-loop-g : goal.invariant-loop-g
invariant-loop-g l = seek (copy_of l.c l.key) (l.from + 16 * l.g) (l.frames - (l.from + 16 * l.g)) ≡ seek (copy_of l.c l.key) l.from (l.frames - l.from)
