-- Both regions stay right over a return. Of the stack: what it needs of tags and sizes stands first, it frees exactly the pages beyond the caller's
-- size; from that on pages and frames are enough. Of the heap no frame is freed, and the caller's size becomes that of the invocation that returns.
-- Assumes nothing.
use Rattle.std.proofs.Common.{ℕ, suc, ◌-◌, ◌≤◌, ◌<◌, ◌≡◌, sym, ap, ◌∙◌, true, false, inl, inr, List, arith, ltb, leb, le-leb, leb-false}
use Rattle.std.proofs.Math.Decide.{dec_lt, ℕ_discrete}
use borrow.Author.Tests.{lt-leb}
use Rattle.choice.proofs.Tests.{by_test, differ, pick_true, pick_false}
use Rattle.control.specs.Control.{frames, invocations, depth, control_valid, current_valid, size_of, size_in}
use Rattle.control.specs.declared.shadow.Region.{Region}
use Rattle.control.specs.declared.shadow.Region.TheVariants.{Stack, Heap}
use Rattle.control.specs.declared.shadow.Invocation.{Invocation}
use Rattle.frames.specs.Table.{frame_entry_of, zero_entry}
use Rattle.frames.proofs.Claims.{claims_page}
use Rattle.invoke.specs.Invoke.{returned, leaves, return_check}
use Rattle.invoke.proofs.Accepted.{ReturnFacts, return_facts}
use Rattle.invoke.proofs.Freed.{leaves_stack, leaves_other}
use Rattle.invoke.proofs.Depth.{returned-frames, returned-invocations, returned_invocation, returned_caller, returned_entry}
use Rattle.regions.proofs.Pages.{usage_some}
use Rattle.lifecycle.specs.Regions.{grown_at, holds_page, RegionHeld, RegionTagged, Rights}
use Rattle.lifecycle.proofs.Depths.{grown-le, grown_hits, grown_kept}
use Rattle.lifecycle.proofs.Moves.{usage_same, Moves, moved_held, Same, same_held}
use Rattle.lifecycle.proofs.Tagged.{moved_tagged}
use Rattle.std.specs.Prelude.{Ok}

-- ---- what a return needs of the stack's tags and sizes

-- the caller's size
abbrev callers : List ℕ → ℕ
callers c = size_in c Stack (invocations c - 1)

-- the caller's size is no larger, and a frame of a page leaves just where the page is beyond it
record Beyond (c : List ℕ) : Type 0 where
  fewer : callers c ≤ size_of c Stack
  leave : (k i : ℕ) → k < size_of c Stack → i < frames c → holds_page c Stack k i ≡ true → leaves (depth c) (frame_entry_of c i) ≡ leb (callers c) k

module _ (c : List ℕ) (above : 1 < invocations c) where
  -- a page that the caller has was grown above the invocation that returns
  callers_depth : (k : ℕ) → k < callers c → grown_at c Stack k < depth c
  callers_depth k l =
      let n : suc (invocations c - 2) ≡ invocations c - 1 = omega arith in
      omega (arith, grown-le c Stack k (invocations c - 2) (rw n l))

  -- any other was not
  beyond_depth : RegionTagged c Stack → (k : ℕ) → callers c ≤ k → depth c ≤ grown_at c Stack k
  beyond_depth h k l =
      elim (dec_lt (grown_at c Stack k) (depth c)) [
        | yes b ↦
            absurd
            (omega (
              arith,
              grown_hits c Stack k (omega arith),
              h.rise (suc (grown_at c Stack k)) (invocations c - 1) (omega arith) (omega arith) (omega arith),
            ))
        | no b ↦ omega arith
      ]

  -- tags and sizes give that
  frees_beyond : RegionTagged c Stack → Beyond c
  frees_beyond h =
      record {
        fewer = h.rise (invocations c - 1) (invocations c) (omega arith) (omega arith) (omega arith);
        leave = λ k i l b q.
            leaves_stack (depth c) (frame_entry_of c i) (claims_page c i Stack _ q).usage
            ∙ rw (h.tag k i l b q)
            (elim (dec_lt k (callers c)) [
              | yes m ↦ lt-leb _ _ (callers_depth k m) ∙ sym (lt-leb _ _ m)
              | no m ↦ le-leb _ _ (beyond_depth h k (omega arith)) ∙ sym (le-leb (callers c) k (omega arith))
            ]);
      }

-- ---- the return

module _ (c : List ℕ) (valid : control_valid c ≡ true) (above : 1 < invocations c) where
  -- the entry of a frame that leaves is zeros
  left_entry : (i : ℕ) → i < frames c → leaves (depth c) (frame_entry_of c i) ≡ true → frame_entry_of (returned c) i ≡ zero_entry
  left_entry i l e = returned_entry c valid above i l ∙ pick_true _ _ _ e

  -- any other is as it was
  pub kept_entry : (i : ℕ) → i < frames c → leaves (depth c) (frame_entry_of c i) ≡ false → frame_entry_of (returned c) i ≡ frame_entry_of c i
  kept_entry i l e = returned_entry c valid above i l ∙ pick_false _ _ _ e

  module _ (n : ℕ) (ok : current_valid c n ≡ true) where
    -- ---- the stack

    -- the records that stay have their sizes
    left_size : (j : ℕ) → j < invocations c → size_in (returned c) Stack j ≡ size_in c Stack j
    left_size j l =
        elim (ℕ_discrete j (invocations c - 1)) [
          | yes e ↦ rw e (ap (λ (x : Invocation). x.stack) (returned_caller c valid above n ok))
          | no e ↦ ap (λ (x : Invocation). x.stack) (returned_invocation c valid above j (omega arith))
        ]

    -- the size is the caller's
    left_now : size_of (returned c) Stack ≡ callers c
    left_now = rw (returned-invocations c valid above) (left_size (invocations c - 1) (omega arith))

    -- the pages that stay are the caller's
    left_moves : Beyond c → Moves c (returned c) Stack
    left_moves h =
        record {
          count = returned-frames c valid above;
          fewer = omega (arith, left_now, h.fewer);
          entry = λ i b.
              by_test (leaves (depth c) (frame_entry_of c i))
              (λ e.
              inr
              (record {
                gone = λ u. usage_some Stack (sym u ∙ usage_same (left_entry i b e));
                was = λ k l q.
                    let m : k < callers c = rw left_now at l in
                    differ _ e (h.leave k i (omega (arith, h.fewer)) b q ∙ lt-leb _ _ m);
              }))
              (λ e.
              inl
              (record {
                same = kept_entry i b e;
                within = λ k l q. rw left_now (leb-false _ _ (sym (h.leave k i l b q) ∙ e));
              }));
        }

    -- each keeps its depth
    left_depths : (k : ℕ) → k < size_of (returned c) Stack → grown_at (returned c) Stack k ≡ grown_at c Stack k
    left_depths k l =
        let g : grown_at c Stack k < depth c = callers_depth c above k (rw left_now at l) in
        grown_kept c Stack k (returned c) (omega arith) (omega (arith, returned-invocations c valid above))
        (λ j b. ap (λ (x : ℕ). ltb k x) (left_size (suc j) (omega arith)))

    -- tags and sizes stay right
    left_tagged : RegionTagged c Stack → RegionTagged (returned c) Stack
    left_tagged h =
        let live : invocations (returned c) ≡ invocations c - 1 = returned-invocations c valid above in
        moved_tagged (left_moves (frees_beyond c above h))
        (λ i j some l few. omega (arith, left_size i (omega arith), left_size j (omega arith), h.rise i j some l (omega arith)))
        left_depths h

    -- ---- the heap

    -- its size and its frames stay
    pub heap_same : Same c (returned c) Heap
    heap_same =
        record {
          count = returned-frames c valid above;
          size = rw (returned-invocations c valid above) (ap (λ (x : Invocation). x.heap) (returned_caller c valid above n ok));
          entry = λ i b.
              by_test (leaves (depth c) (frame_entry_of c i))
              (λ e.
              inr
              (record {
                was = λ u. differ _ e (leaves_other (depth c) (frame_entry_of c i) (λ t. omega arith));
                is = λ u. usage_some Heap (sym u ∙ usage_same (left_entry i b e));
              }))
              (λ e. inl (kept_entry i b e));
        }

    -- ---- both

    -- the pages of each stay held
    left_held : RegionTagged c Stack → (r : Region) → RegionHeld c r → RegionHeld (returned c) r
    left_held t Stack h = moved_held (left_moves (frees_beyond c above t)) h
    left_held t Heap h = same_held heap_same h

-- both regions stay right
pub returned_right : (s c p : List ℕ) (n : ℕ) → return_check s c p n ≡ Ok tt → Rights c → Rights (returned c)
returned_right s c p n accepted h =
    let f : ReturnFacts s c p n = return_facts s c p n accepted in
    let v : control_valid c ≡ true = f.buffers.control in
    record {
      held = λ r. left_held c v f.above _ f.buffers.current h.tagged r (h.held r);
      tagged = left_tagged c v f.above _ f.buffers.current h.tagged;
      few = λ i l.
          let b : i < frames c = rw (returned-frames c v f.above) at l in
          by_test (leaves (depth c) (frame_entry_of c i)) (λ e. omega (arith, usage_same (left_entry c v f.above i b e)))
          (λ e. omega (arith, usage_same (kept_entry c v f.above i b e), h.few i b));
    }
