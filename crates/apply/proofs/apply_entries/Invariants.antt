use Rattle.std.proofs.Common.{◌≡◌}
use Rattle.apply.specs.Apply.{applied}
use Rattle.apply.proofs.apply_entries.Given as goal

abbrev pub invariant-loop-i : goal.invariant-loop-i
invariant-loop-i l = l.data ≡ applied l.l l.a l.initial.data l.i
