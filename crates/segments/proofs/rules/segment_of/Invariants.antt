use Rattle.std.proofs.Common.{◌≡◌, drop}
use Rattle.segments.proofs.rules.segment_of.Given as goal
use Rattle.segments.specs.Rules.{row_of, rules}

abbrev pub invariant-loop-i : goal.invariant-loop-i
invariant-loop-i l = row_of rules l.segment l.index l.accounts ≡ row_of (drop l.i l.rows) l.segment l.index l.accounts
