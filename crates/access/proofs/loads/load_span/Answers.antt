use Rattle.access.specs.Loads.{load_span_of, load_span_out}
use Rattle.access.proofs.loads.load_span.Goals as goal
use Rattle.std.proofs.Common.{rules}
use Rattle.access.proofs.Answers.{refused_span, given_span, place_room, place_long}

pub returns-in_default : goal.returns-in_default
unfolding load_span_of load_span_out
returns-in_default c =
    let g =
    refused_span _ _ _ _ _ _ c.translate-answer.ensures c.in_default.is c.args.out.now {x = c.map.result} (search rules) in
    record { value = g.0; out_after = g.1 }

pub span_at-requires : goal.span_at-requires
span_at-requires c =
    let i = c.translate-answer.ensures in
    let e = c.in-Ok.is in
    (place_long _ _ _ _ _ _ i e, place_room _ _ _ _ _ _ i e)

pub returns : goal.returns
unfolding load_span_of load_span_out
returns c =
    let g =
    given_span _ _ _ _ _ _ c.translate-answer.ensures c.in-Ok.is c.args.out.now
    c.span_at.ensures in
    record { value = g.0; out_after = g.1 }
