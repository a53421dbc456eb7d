-- `changes::list::change_list` meets its contract. Assumes nothing.
use Rattle.changes.proofs.list.change_list.Goals as goal
use Rattle.std.proofs.Common.{sym, ◌∙◌}
use Rattle.changes.proofs.Answers.{bad_buffers}

pub returns-then-not-buffers_valid-clause-value : goal.returns-then-not-buffers_valid-clause-value
returns-then-not-buffers_valid-clause-value c =
    (bad_buffers _ _ _ c.args.out.now (sym c.buffers_valid.ensures ∙ c.if-not-buffers_valid.true)).0

pub returns-then-not-buffers_valid-clause-out_after : goal.returns-then-not-buffers_valid-clause-out_after
returns-then-not-buffers_valid-clause-out_after c =
    (bad_buffers _ _ _ c.args.out.now (sym c.buffers_valid.ensures ∙ c.if-not-buffers_valid.true)).1
