use Rattle.std.proofs.Common.{arith, sym, ◌∙◌}
use Rattle.access.proofs.Near.{span_near}
use Rattle.records.proofs.Given.{read_allowed, read_refused, read_bad}
use Rattle.records.proofs.reads.read.Goals as goal

pub overflow_cast-result : goal.overflow_cast-result
overflow_cast-result g c =
    let near = span_near _ _ _ _ _ (sym c.in-Err.is ∙ c.load_span-answer.ensures.value) in
    omega (arith, near)

pub returns-then-not-is_valid : goal.returns-then-not-is_valid
returns-then-not-is_valid g c = grind (arith, read_bad, g.met.R.Record.size, g.met.R.Record.kept)

pub returns-in-Ok : goal.returns-in-Ok
returns-in-Ok g c =
    read_allowed _ _ _ _ _ _ g.met.R.Record.size g.R.Record.fields g.R.Record.of_fields g.met.R.Record.kept c.load_span-answer.ensures.out_after c.read_at-record.ensures c.is_valid.ensures
    c.if-not-is_valid.false c.load_span-answer.ensures.value c.in-Ok.is

pub returns-in-Err : goal.returns-in-Err
returns-in-Err g c =
    rw (c.distance.ensures, c.number-in-Err.ensures)
    (read_refused _ _ _ _ _ _ g.met.R.Record.size g.R.Record.fields g.R.Record.of_fields g.met.R.Record.kept c.load_span-answer.ensures.out_after c.read_at-record.ensures c.is_valid.ensures
    c.if-not-is_valid.false c.load_span-answer.ensures.value c.in-Err.is)
