use Rattle.std.proofs.Common.{◌≡◌, true, List, ℕ, ◌+◌, ◌*◌, ◌≤◌, length, refl, ap, ◌∙◌, arith}
use Rattle.layout.specs.Control.{frame_limit}
use Rattle.control.specs.Control.{control_valid, frames}
use Rattle.frames.specs.Table.{frame_entry_at}
use Rattle.invoke.specs.Invoke.{freed_below}
use Rattle.invoke.proofs.calls.free_leaving.Goals as goal
use Rattle.invoke.proofs.calls.free_leaving.Goals.{then-group_may_hold_regions, else-group_may_hold_regions}
use Rattle.control.proofs.Facts.{ControlFacts, control_facts}
use Rattle.control.specs.declared.shadow.Region.TheVariants.{Stack}
use Rattle.invoke.proofs.Freed.{run_kept, freed_only}

-- the table lies in the block, however many entries are done
inside : (c x : List ℕ) (d n f : ℕ) → control_valid c ≡ true → x ≡ freed_below d c n → f ≡ frames c → (f ≤ frame_limit) × (frame_entry_at f ≤ length x)
inside c x d n f v h e =
    let g : ControlFacts c = control_facts c v in
    let m : length x ≡ length c = ap length h ∙ (freed_only d c n).size in
    omega arith

pub loop-group-init : goal.loop-group-init
unfolding freed_below
loop-group-init c = refl

pub group_may_hold_regions-requires : goal.group_may_hold_regions-requires
group_may_hold_regions-requires c =
    let l = (inside _ _ _ _ _ c.requires c.loop-group.invariant c.frame_count-frames.ensures.0) in omega arith

pub free_within-requires : goal.free_within-requires
free_within-requires c =
    let l = (inside _ _ _ _ _ c.requires c.loop-group.invariant c.frame_count-frames.ensures.0) in omega arith

pub loop-group-preserved : goal.loop-group-preserved
loop-group-preserved c =
    let e : 16 * c.loop-group.group + 16 ≡ 16 * (c.loop-group.group + 1) = omega arith in
    rw (← e)
    (elim c.if-group_may_hold_regions.branch [
      | then-group_may_hold_regions w ↦ w.c-is ∙ w.free_within.ensures _ c.loop-group.invariant
      | else-group_may_hold_regions w ↦
          w.c-is ∙ run_kept _ _ _ c.loop-group.invariant _ (c.group_may_hold_regions.ensures w.if-group_may_hold_regions.false Stack)
    ])

pub free_within-requires-2 : goal.free_within-requires-2
free_within-requires-2 c =
    let l = (inside _ _ _ _ _ c.requires c.loop-group.invariant c.frame_count-frames.ensures.0) in omega arith
