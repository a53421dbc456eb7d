use Rattle.std.proofs.Common.{sym, arith, ◌∙◌, ne_eqb}
use Rattle.frame_search.proofs.Matches.{keyed_if, keyed_not}
use Rattle.frame_search.proofs.keyed.is_copy_of.Goals as goal

pub returns-then-u32_at-key : goal.returns-then-u32_at-key
returns-then-u32_at-key c = keyed_if _ _ (λ j. omega (arith, c.type_inv.c j)) _ (sym c.u32_at.ensures.0 ∙ c.if-u32_at-key.true)

pub returns-else-u32_at-key : goal.returns-else-u32_at-key
returns-else-u32_at-key c =
    ne_eqb _ _ c.if-u32_at-key.false ∙ keyed_not _ _ (λ j. omega (arith, c.type_inv.c j)) _ (λ e. c.if-u32_at-key.false (c.u32_at.ensures.0 ∙ e))
