use Rattle.std.proofs.Common.{◌≡◌, arith}
use Rattle.frames.specs.Table.{is_free}
use Rattle.frame_search.proofs.counting.wanted_after.Goals as goal
use Rattle.choice.proofs.Counting.{count_grows}
use Rattle.frame_search.proofs.Loops.{free_more, free_same}

-- `frame_search::counting::wanted_after` meets its contract. The loop's invariant: what is left and the free entries from the start up to i are
-- n together. Assumes nothing.
pub returns-then-left-eq0 : goal.returns-then-left-eq0
returns-then-left-eq0 c = omega (arith, count_grows (is_free c.args.c.now) c.loop-i.i c.args.to (omega arith))

pub loop-i-preserved : goal.loop-i-preserved
loop-i-preserved c = grind (arith, free_more, free_same)

pub returns : goal.returns
returns c =
    let e : c.loop-i.i ≡ c.args.to = omega arith in
    let h = rw e at c.loop-i.invariant in
    omega (arith, count_grows (is_free c.args.c.now) c.args.from c.args.to (omega arith))
