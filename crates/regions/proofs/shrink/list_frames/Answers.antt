-- `regions::shrink::list_frames` meets its contract. The loop's invariant: the entries before i are looked at, and a page is left that has no
-- frame yet. Assumes nothing.
use Rattle.std.proofs.Common.{ℕ, refl, arith, length-set}
use Rattle.regions.proofs.Listed.{list_start, list_other, list_again, list_found, list_done, list_misses, listed_within}
use Rattle.regions.proofs.shrink.list_frames.Goals as goal
use Rattle.regions.proofs.shrink.list_frames.Goals.{in-Some+then-frames-table+else-left-eq0, in-Some+else-frames-table, in_default}

pub loop-i-init : goal.loop-i-init
loop-i-init c = (omega arith, refl, list_start _ _ _ _ _ _ (λ j b. omega (arith, c.requires.by_index j b)))

pub returns-then-left-eq0-clause-frames_of : goal.returns-then-left-eq0-clause-frames_of
returns-then-left-eq0-clause-frames_of c =
    let x = c.in-Some.ensures.some in
    let l = list_found c.loop-i.invariant.2 c.loop-i-test.true _ x.1 x.0 (omega arith) c.if-frames-table.true in
    λ e. list_done l c.frame_count-frames.ensures.0 c.if-left-eq0.true (simp length-set (omega arith))

pub returns-then-left-eq0-clause-within : goal.returns-then-left-eq0-clause-within
returns-then-left-eq0-clause-within c =
    let x = c.in-Some.ensures.some in
    let l = list_found c.loop-i.invariant.2 c.loop-i-test.true _ x.1 x.0 (omega arith) c.if-frames-table.true in
    λ e j b. listed_within (list_done l c.frame_count-frames.ensures.0 c.if-left-eq0.true (simp length-set (omega arith))) j (omega (arith, length-set {A = ℕ}, c.loop-i.invariant.1))

pub loop-i-preserved : goal.loop-i-preserved
loop-i-preserved c =
    elim c.match-claimed.branch [
      | in-Some+then-frames-table+else-left-eq0 w ↦
          let x = w.in-Some.ensures.some in
          let l = list_found c.loop-i.invariant.2 c.loop-i-test.true _ x.1 x.0 (omega arith) w.if-frames-table.true in
          rw (w.table-is, w.left-is) (omega arith, simp length-set c.loop-i.invariant.1, l)
      | in-Some+else-frames-table w ↦
          let x = w.in-Some.ensures.some in
          rw (w.table-is, w.left-is) (c.loop-i.invariant.0, c.loop-i.invariant.1, list_again c.loop-i.invariant.2 c.loop-i-test.true _ x.1 w.if-frames-table.false)
      | in_default w ↦
          rw (w.table-is, w.left-is) (c.loop-i.invariant.0, c.loop-i.invariant.1, list_other c.loop-i.invariant.2 c.loop-i-test.true w.in_default.ensures.none)
    ]

pub returns-clause-value : goal.returns-clause-value
returns-clause-value c =
    list_misses c.loop-i.invariant.2 c.frame_count-frames.ensures.0 c.loop-i-test.false (omega arith) c.loop-i.invariant.0
