use Rattle.frame_search.proofs.finding.next_copy.Goals as goal
use Rattle.std.proofs.Common.{sym, ◌∙◌, arith, eq-eqb}
use Rattle.choice.proofs.Lowest.{seek_hit}
use Rattle.choice.proofs.Parts.{seek_ext}
use Rattle.frame_search.proofs.Matches.{used_matches}

pub returns-then-usage_at-eq-COPY : goal.returns-then-usage_at-eq-COPY
returns-then-usage_at-eq-COPY c =
    sym
    (seek_hit _ _ _ c.if-from-frames.true
    (eq-eqb _ _ (sym c.usage_at.ensures ∙ c.if-usage_at-eq-COPY.true)))

pub returns : goal.returns
returns c =
    rw c.from.ensures at c.nearest_match.ensures
    ∙ seek_ext _ _ _ _ (λ i. used_matches _ i (λ j. omega (arith, c.type_inv.c j)))
