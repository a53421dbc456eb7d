use Rattle.std.proofs.Common.{rules, ◌∙◌}
use Rattle.frame_search.specs.Match.{matches}
use Rattle.frame_search.proofs.Ranges.{find_seeks}
use Rattle.frame_search.proofs.search.one_by_one.Goals as goal

pub returns : goal.returns
returns c =
    let a = c.args in
    c.unwrap_or.ensures ∙ find_seeks (matches a.c.now a.mask a.wanted) _ _ _ _ c.requires.0 c.find.ensures.ran (λ x b q k. search rules)
