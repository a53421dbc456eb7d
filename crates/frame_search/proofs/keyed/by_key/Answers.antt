use Rattle.std.proofs.Common.{◌≡◌, ◌+◌, ◌*◌, ◌∙◌, arith, rules, Some, None}
use Rattle.choice.proofs.Parts.{part_fails}
use Rattle.frame_search.specs.Match.{copy_of}
use Rattle.frame_search.proofs.Ranges.{find_within}
use Rattle.frame_search.proofs.keyed.by_key.Goals as goal

pub overflow_add-result : goal.overflow_add-result
overflow_add-result c =
    let a = c.args in
    let w = find_within (copy_of a.c.now a.key) a.frames _ 16 _ _ (Some c.in-Some.k) (omega arith) c.loop-g.invariant c.in-Some.ensures.ran (λ x b q k. search rules) in
    omega (arith, w.0)

pub returns-in-Some : goal.returns-in-Some
returns-in-Some c =
    let a = c.args in
    (find_within (copy_of a.c.now a.key) a.frames _ 16 _ _ (Some c.in-Some.k) (omega arith) c.loop-g.invariant c.in-Some.ensures.ran (λ x b q k. search rules)).1

pub returns-in-None : goal.returns-in-None
returns-in-None c =
    let a = c.args in
    rw (c.from.ensures, c.from-2.ensures) at c.by_groups.ensures
    ∙ find_within (copy_of a.c.now a.key) a.frames _ 16 _ _ None (omega arith) c.loop-g.invariant c.in-None.ensures.ran (λ x b q k. search rules)

pub loop-g-preserved : goal.loop-g-preserved
loop-g-preserved c =
    let t = c.loop-g in
    let s : c.args.from + 16 * (t.g + 1) ≡ c.args.from + 16 * t.g + 16 = omega arith in
    rw s (part_fails _ _ _ _ (omega arith) (omega arith) t.invariant (c.group_has_key.ensures c.if-group_has_key.false))
