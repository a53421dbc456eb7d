-- What matches under the mask is free, in either order.
use Rattle.std.proofs.Common.{◌∙◌, arith}
use Rattle.choice.proofs.Parts.{seek_ext}
use Rattle.frame_search.proofs.Loops.{end_ext}
use Rattle.frame_search.proofs.Matches.{free_matches}
use Rattle.frame_search.proofs.finding.next_free.Goals as goal

pub returns : goal.returns
returns c =
    rw c.from.ensures at c.nearest_match.ensures
    ∙ seek_ext _ _ _ _ (end_ext c.args.end _ _ _ (λ i. free_matches _ i (λ j. omega (arith, c.type_inv.c j))))
