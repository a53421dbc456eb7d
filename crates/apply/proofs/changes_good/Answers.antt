-- `apply::changes_good` meets its contract. Assumes nothing.
use Rattle.std.proofs.Common.{rules, ◌∙◌, refl, ap, arith}
use Rattle.choice.specs.Search.{every}
use Rattle.std.proofs.lemmas.Iterator.{YieldsList-from_range, serves_from_Range}
use Rattle.std.proofs.lemmas.Iterator.Search.{all_from_yields_List}
use Rattle.apply.specs.Apply.{change_good}
use Rattle.apply.proofs.changes_good.Goals as goal
use Rattle.apply.proofs.Good.{layout_facts, change_inside}
use Rattle.apply.proofs.Range.{all_below}

pub u32_at-requires : goal.u32_at-requires
u32_at-requires c = let f = layout_facts _ c.requires in omega arith

pub all-requires-clause-callable : goal.all-requires-clause-callable
all-requires-clause-callable c =
    serves_from_Range (λ x q k. search rules)
    (λ x a b. let h = change_inside c.args.l.now x (λ k. (c.type_inv.l k).fits) c.requires (omega (arith, b)) in search rules)

pub returns : goal.returns
returns c =
    all_from_yields_List (change_good c.args.l.now c.args.a c.args.size) _ _ _ c.all.ensures.ran (YieldsList-from_range 0 c.u32_at.result c.u32_at.result refl (omega arith)) (λ x b q k. search rules)
    ∙ all_below _ _ ∙ ap (every (change_good c.args.l.now c.args.a c.args.size)) c.u32_at.ensures.0
