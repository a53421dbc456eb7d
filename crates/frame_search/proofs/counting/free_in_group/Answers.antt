use Rattle.frame_search.proofs.Loops.{free_turn}
use Rattle.frame_search.proofs.counting.free_in_group.Goals as goal

-- `frame_search::counting::free_in_group` meets its contract. The loop's invariant: n of the k entries from i on are free. Assumes nothing.
pub loop-k-preserved : goal.loop-k-preserved
loop-k-preserved c = free_turn _ _ _ _ _ c.usage_at.ensures c.from-n.ensures c.loop-k.invariant.0 c.loop-k.invariant.1
