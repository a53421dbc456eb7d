use Rattle.frame_search.proofs.finding.lowest_page.Goals as goal
use Rattle.std.proofs.Common.{◌∙◌, arith}
use Rattle.choice.proofs.Parts.{seek_ext}
use Rattle.frame_search.proofs.Loops.{search_start}
use Rattle.frame_search.proofs.Matches.{page_matches}

pub returns : goal.returns
returns c =
    let a = c.args in
    rw (c.from.ensures, c.from-2.ensures) at c.nearest_match.ensures
    ∙ seek_ext _ _ _ _ (λ i. page_matches _ i (λ j. omega (arith, c.type_inv.c j)) a.r a.p _ c.usage_of.ensures)
    ∙ search_start _ _
