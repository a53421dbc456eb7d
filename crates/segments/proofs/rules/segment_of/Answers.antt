use Rattle.std.proofs.Common.{Bool, ◌≡◌, ℕ, Some, refl, ap, sym, ◌∙◌, arith}
use Rattle.std.specs.Bool.{then_some}
use Rattle.choice.proofs.Tests.{by_test}
use Rattle.segments.specs.Rules as table
use Rattle.segments.specs.Rules.{edition_matches, in_edition, segment_of}
use Rattle.segments.specs.declared.rules.Row.{Row}
use Rattle.segments.proofs.Rows.{hit, miss, over}
use Rattle.segments.proofs.rules.segment_of.Goals as goal

-- a row is kept where the edition has it
kept : (edition : ℕ) (r : Row) {b : Bool} → b ≡ edition_matches r.editions edition → then_some b r ≡ in_edition edition (Some r)
kept edition r e = rw e (by_test (edition_matches r.editions edition) (λ t. rw t) (λ t. rw t))

pub loop-i-init : goal.loop-i-init
unfolding table.rules
loop-i-init c = refl

pub returns-then-is_of : goal.returns-then-is_of
unfolding segment_of
returns-then-is_of c =
    let a = c.args in
    c.then_some.ensures
    ∙ kept a.edition _ c.include.ensures
    ∙ ap (in_edition a.edition)
    (sym (c.loop-i.invariant ∙ hit _ c.loop-i.i _ a.segment a.index a.accounts (omega arith) (sym c.is_of.ensures ∙ c.if-is_of.true)))

pub loop-i-preserved : goal.loop-i-preserved
loop-i-preserved c =
    let a = c.args in
    c.loop-i.invariant
    ∙ miss _ c.loop-i.i _ a.segment a.index a.accounts (omega arith) (sym c.is_of.ensures ∙ c.if-is_of.false)

pub returns : goal.returns
unfolding segment_of
returns c =
    let a = c.args in
    ap (in_edition a.edition) (sym (c.loop-i.invariant ∙ over _ c.loop-i.i a.segment a.index a.accounts (omega arith)))
