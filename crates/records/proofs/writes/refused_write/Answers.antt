use Rattle.access.specs.Stores.{store_outcome}
use Rattle.records.specs.Calls.{judged}
use Rattle.records.proofs.writes.refused_write.Goals as goal
use Rattle.refusal.proofs.Checks.{refusal_number}

pub returns-in-Ok : goal.returns-in-Ok
unfolding judged store_outcome
returns-in-Ok g c = rw (g.met.R.Record.size, ← c.translate.ensures, c.in-Ok.is)

pub returns-in-Err : goal.returns-in-Err
unfolding judged store_outcome
returns-in-Err g c = rw (g.met.R.Record.size, ← c.translate.ensures, c.in-Err.is, refusal_number _)
