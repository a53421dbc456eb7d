use Rattle.std.proofs.Common.{length, sym, ap, ◌∙◌}
use Rattle.invoke.proofs.calls.free_within.Goals as goal
use Rattle.invoke.proofs.calls.free_within.Goals.{then-leaves_at, else-leaves_at}
use Rattle.invoke.proofs.Freed.{turn_freed, turn_kept}

pub loop-i-preserved : goal.loop-i-preserved
loop-i-preserved c = (
  elim c.if-leaves_at.branch [
    | then-leaves_at w ↦ ap length w.c-is ∙ w.free_frame_entry.auto.c ∙ c.loop-i.invariant.0
    | else-leaves_at w ↦ ap length w.c-is ∙ c.loop-i.invariant.0
  ],
  λ d h. elim c.if-leaves_at.branch [
    | then-leaves_at w ↦
        w.c-is ∙ w.free_frame_entry.ensures ∙ turn_freed _ _ _ (c.loop-i.invariant.1 d h) (sym c.leaves_at.ensures ∙ w.if-leaves_at.true)
    | else-leaves_at w ↦ w.c-is ∙ turn_kept _ _ _ (c.loop-i.invariant.1 d h) (sym c.leaves_at.ensures ∙ w.if-leaves_at.false)
  ],
)
