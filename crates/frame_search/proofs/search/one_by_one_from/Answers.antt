use Rattle.std.proofs.Common.{rules, ◌∙◌}
use Rattle.choice.specs.Search.{from_top}
use Rattle.frame_search.specs.Match.{matches}
use Rattle.frame_search.proofs.Ranges.{find_seeks}
use Rattle.frame_search.proofs.search.one_by_one_from.Goals as goal

pub returns-in-Highest : goal.returns-in-Highest
returns-in-Highest c =
    let a = c.args in
    rw c.in-Highest.is
    (c.unwrap_or.ensures
    ∙ find_seeks (from_top (matches a.c.now a.mask a.wanted) a.frames) _ _ _ _ c.requires.0 c.find.ensures.ran (λ x b q k. search rules))
