use Rattle.frame_search.proofs.finding.lowest_copy.Goals as goal
use Rattle.std.proofs.Common.{◌∙◌, arith}
use Rattle.choice.proofs.Parts.{seek_ext}
use Rattle.frame_search.proofs.Matches.{copy_matches}

pub returns : goal.returns
returns c =
    let a = c.args in
    rw (c.from.ensures, c.from-2.ensures) at c.lowest_keyed.ensures
    ∙ seek_ext _ _ _ _ (λ i. copy_matches _ i (λ j. omega (arith, c.type_inv.c j)) a.a a.p (omega arith))
