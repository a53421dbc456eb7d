use Rattle.access.proofs.loads.span_at.Goals as goal
use Rattle.std.proofs.Common.{◌∙◌}
use Rattle.words.proofs.Run.{length-bytes_at, length-zeros, splice_whole}

pub returns-in-InSnapshot : goal.returns-in-InSnapshot
returns-in-InSnapshot c =
    rw c.in-InSnapshot.is (c.copy.ensures ∙ splice_whole _ _ (length-bytes_at _ _ _))

pub returns-in-InControl : goal.returns-in-InControl
returns-in-InControl c =
    rw c.in-InControl.is (c.copy-in-InControl.ensures ∙ splice_whole _ _ (length-bytes_at _ _ _))

pub returns-in-Zeros : goal.returns-in-Zeros
returns-in-Zeros c = rw c.in-Zeros.is (c.clear.ensures ∙ splice_whole _ _ (length-zeros _))

pub returns-in-InPool : goal.returns-in-InPool
returns-in-InPool c =
    rw c.in-InPool.is (c.copy-in-InPool.ensures ∙ splice_whole _ _ (length-bytes_at _ _ _))
