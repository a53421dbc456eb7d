use Rattle.access.proofs.loads.value_by.Goals as goal
use Rattle.std.proofs.Common.{arith, rules}
use Rattle.access.proofs.Answers.{refused_value, given_value, place_room, place_size}

pub returns-in_default : goal.returns-in_default
returns-in_default c = refused_value _ _ _ _ _ _ c.translate-answer.ensures c.in_default.is {x = c.map.result} (search rules)

pub value_at-requires : goal.value_at-requires
value_at-requires c =
    let i = c.translate-answer.ensures in
    let e = c.in-Ok.is in
    (place_size _ _ _ _ _ _ i e (omega arith), place_room _ _ _ _ _ _ i e)

pub returns : goal.returns
returns c = given_value _ _ _ _ _ _ c.translate-answer.ensures c.in-Ok.is c.value_at.ensures
