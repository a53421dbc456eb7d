use Rattle.frame_search.proofs.search.nearest_match.Goals as goal
use Rattle.std.proofs.Common.{refl, ◌∙◌}
use Rattle.choice.proofs.Parts.{part_found, part_ends}

pub returns-then-found-few : goal.returns-then-found-few
returns-then-found-few c =
    part_found _ _ _ _ c.first_few-few.ensures.0 c.first_few-few.ensures.1 refl _ c.one_by_one_from-found.ensures
    c.if-found-few.true

pub returns : goal.returns
returns c =
    c.by_groups.ensures
    ∙ part_ends _ _ _ _ c.first_few-few.ensures.0 c.first_few-few.ensures.1 refl _
    c.one_by_one_from-found.ensures c.if-found-few.false
