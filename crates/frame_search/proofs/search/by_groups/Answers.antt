use Rattle.std.proofs.Common.{false, arith, rules, refl, ◌∙◌}
use Rattle.choice.proofs.Parts.{part_fails}
use Rattle.frame_search.specs.Match.{matches, from_end}
use Rattle.frame_search.proofs.Ranges.{find_group, groups_passed}
use Rattle.frame_search.proofs.Loops.{group_none}
use Rattle.frame_search.proofs.search.by_groups.Goals as goal

pub one_by_one_from-requires : goal.one_by_one_from-requires
one_by_one_from-requires c =
    let h = groups_passed (λ k. false) _ _ _ c.requires.0 (find_group (λ k. false) _ _ _ _ _ c.requires.0 c.find.ensures.ran (λ x q k. (search rules, λ l j a b. refl))) in
    omega (arith, h.0, c.unwrap_or-passed.ensures)

pub returns : goal.returns
unfolding matches
returns c =
    let a = c.args in
    let f = from_end a.end (matches a.c.now a.mask a.wanted) a.frames in
    let h = groups_passed f _ _ _ c.requires.0 (find_group f _ _ _ _ _ c.requires.0 c.find.ensures.ran (λ x q k. (search rules, search (rules, group_none)))) in
    c.one_by_one_from.ensures ∙ rw (← c.unwrap_or-passed.ensures) at (part_fails f _ _ _ (omega arith) h.0 refl h.1)
