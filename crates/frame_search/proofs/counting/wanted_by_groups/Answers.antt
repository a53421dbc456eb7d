use Rattle.std.proofs.Common.{◌≡◌, ◌+◌, ◌-◌, ◌*◌, ◌/◌, arith}
use Rattle.choice.proofs.Counting.{count_grows}
use Rattle.frames.specs.Table.{is_free}
use Rattle.frame_search.proofs.counting.wanted_by_groups.Goals as goal

pub returns-then-left-found : goal.returns-then-left-found
returns-then-left-found c =
    let a = c.args in
    omega (arith, c.free_in_group-found.ensures, count_grows (is_free a.c.now) (a.from + 16 * c.loop-g.g + 16) a.frames (omega arith))

pub returns : goal.returns
returns c =
    let a = c.args in
    let groups = (a.frames - a.from) / 16 in
    let e : c.loop-g.g ≡ groups = omega arith in
    let h = rw e at c.loop-g.invariant in
    omega (
      arith,
      c.wanted_after.ensures,
      count_grows (is_free a.c.now) (a.from + 16 * groups) a.frames (omega arith),
      count_grows (is_free a.c.now) a.from (a.from + 16 * groups) (omega arith),
    )
