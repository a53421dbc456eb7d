use Rattle.std.proofs.Common.{◌≡◌, ◌*◌}
use Rattle.invoke.specs.Invoke.{freed_below}
use Rattle.invoke.proofs.calls.free_leaving.Given as goal

abbrev pub invariant-loop-group : goal.invariant-loop-group
invariant-loop-group l = l.c ≡ freed_below l.depth l.initial.c (16 * l.group)
