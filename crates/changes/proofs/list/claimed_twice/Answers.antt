-- `changes::list::claimed_twice` meets its contract. Assumes nothing.
use Rattle.std.proofs.Common.{rules, ◌∙◌}
use Rattle.std.proofs.lemmas.Iterator.Search.{any_from_yields_List}
use Rattle.changes.proofs.Pairs.{one_key, YieldsList-pairs, any_pair}
use Rattle.changes.proofs.list.claimed_twice.Goals as goal

pub returns : goal.returns
returns c =
    any_from_yields_List one_key _ _ _ c.any.ensures.ran (YieldsList-pairs _ c.windows.ensures.rest c.windows.ensures.size) (λ x b q k. search rules)
    ∙ any_pair _
