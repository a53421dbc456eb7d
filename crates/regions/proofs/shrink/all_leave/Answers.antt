-- `regions::shrink::all_leave` meets its contract. The loop's invariant: the frames before the next may be freed. Assumes nothing.
use Rattle.std.proofs.Common.{◌≡◌, true, ℕ, ◌+◌, ◌-◌, Bool, List, length, refl, sym, ap, ◌∙◌, arith, leb, le-leb}
use borrow.Author.Tests.{lt-leb}
use Rattle.choice.specs.Search.{every}
use Rattle.choice.proofs.Every.{every_turn, every_fails}
use Rattle.control.specs.Control.{depth}
use Rattle.control.specs.declared.shadow.Region.{Region}
use Rattle.frames.specs.Table.{frame_entry_of}
use Rattle.frames.specs.declared.table.FrameEntry.{FrameEntry}
use Rattle.regions.specs.Resize.{all_leave, page_frame}
use Rattle.regions.proofs.Shrunk.{FoundAt, may}
use Rattle.regions.proofs.shrink.all_leave.Goals as goal

-- where i is its frame, it is by the tag of the entry, and the depth
tagged : (c : List ℕ) (r : Region) (k j i d : ℕ) (e : FrameEntry) → FoundAt (page_frame c r (k + j)) i → d ≡ depth c → e ≡ frame_entry_of c i
    → may c r k j ≡ leb d e.tag
tagged c r k j i d e at live read =
    let g : e.tag ≡ (frame_entry_of c i).tag = ap (λ (x : FrameEntry). x.tag) read in
    rw (at, live, g)

-- no page is looked at yet
start : (t : ℕ → Bool) → every t 0 ≡ true
unfolding every
start t = refl

pub loop-frame-init : goal.loop-frame-init
loop-frame-init c = λ r k f. start (may _ r k)

pub returns-then-from-depth : goal.returns-then-from-depth
unfolding all_leave
returns-then-from-depth c = λ r k f.
    sym (every_fails (may _ r k) _ _ c.loop-frame-test.true
    (tagged _ r k _ _ _ _ (f.each _ c.loop-frame-test.true) (ap (λ (x : ℕ). x - 1) c.invocation_count-depth.ensures.0) c.frame_entry.ensures
    ∙ lt-leb _ _ (rw c.from.ensures at c.if-from-depth.true)))

pub loop-frame-preserved : goal.loop-frame-preserved
loop-frame-preserved c = λ r k f.
    every_turn (may _ r k) _ (c.loop-frame.invariant r k f)
    (tagged _ r k _ _ _ _ (f.each _ c.loop-frame-test.true) (ap (λ (x : ℕ). x - 1) c.invocation_count-depth.ensures.0) c.frame_entry.ensures
    ∙ le-leb _ _ (rw c.from.ensures at c.if-from-depth.false))

pub returns : goal.returns
unfolding all_leave
returns c =
    let e : c.loop-frame.frame-index ≡ length c.args.table.now = omega arith in
    λ r k f. sym (rw e at (c.loop-frame.invariant r k f))
