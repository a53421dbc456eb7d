-- A call and a return keep the invariant: a call writes one record more, and a return frees stack frames, hands its heap over and goes back to a
-- record that is live. Assumes nothing.
use Prim.Native.Nat.{ℕ, suc, ◌+◌, ◌-◌, ◌≤◌, ◌<◌}
use mathlib.Core.Path.{◌≡◌, refl, sym, ◌∙◌}
use mathlib.Core.List.{List}
use native.Mathlib.Decide.{dec_lt, ℕ_discrete}
use native.Mathlib.Omega.{arith}
use lib.ListN.{length}
use Rattle.choice.proofs.Tests.{by_test}
use Rattle.refusal.proofs.Checks.{check_passed}
use Rattle.snapshot.specs.Header.{accounts}
use Rattle.snapshot.specs.declared.accounts.Account.{Account}
use Rattle.control.specs.Control.{frames, invocations, depth}
use Rattle.control.proofs.Facts.{CurrentFacts, current_facts}
use Rattle.control.specs.Buffers.{Buffers}
use Rattle.frames.specs.Table.{frame_entry_of}
use Rattle.frames.proofs.Entries.{EntryRange, zero_range}
use Rattle.frames.proofs.Claims.{claims-holds}
use Rattle.invoke.specs.Invoke.{call_check, called, call_number, call_control, return_check, leaves, returned, return_number, return_control}
use Rattle.invoke.proofs.Accepted.{CallFacts, call_facts, ReturnFacts, return_facts, program_known, program_fits}
use Rattle.invoke.proofs.Depth.{called-frames, called-invocations, called_valid, called_entry, called_invocation, called_new, returned-frames, returned-invocations, returned_valid, returned_entry, returned_copy, returned_invocation, returned_caller}
use Rattle.invoke.proofs.Freed.{copy_stays}
use Rattle.regions.proofs.Pages.{claims_ext}
use Rattle.hekthumar.specs.Steps.{call, return, step_of}
use Rattle.history.specs.Calls.{accepted, effect}
use Rattle.history.specs.Replay.{Replay, at_depth, replay_effect}
use Rattle.history.proofs.Good.{copy_of, LiveRecord, Good}
use Rattle.history.proofs.Others.{GoodAfter, keep_other, record_same, records_valid}
use Rattle.history.proofs.Refused.{keep_refused}
use Rattle.std.specs.Prelude.{Ok}

module _ {s : List ℕ} {b : Buffers} {r : Replay} (g : Good s b r) where
  -- the control block
  abbrev c : List ℕ
  c = b.control

  -- ---- a call

  module _ (a : Account) (registers : List ℕ) (e : call_check s c b.pool a (length registers) ≡ Ok tt) where
    -- what the check has shown
    call_shows : CallFacts s c b.pool a (length registers)
    call_shows = call_facts s c b.pool a (length registers) e

    -- the records that were live are as they were, and the new one has the program and the caller's sizes
    called_record : (k : ℕ) → 1 ≤ k → k ≤ invocations (called c a registers) → LiveRecord s (called c a registers) k
    called_record k l m =
        let f = call_shows in
        let w = f.buffers.control in
        let n = called-invocations c a registers w f.below f.registers in
        elim (dec_lt (invocations c) k) [
          | yes q ↦
              let i : k ≡ invocations c + 1 = omega arith in
              let u : a.0 < 65536 = program_fits s a f.program f.buffers.snapshot in
              let v = called_new c a registers w f.below f.registers (accounts s) f.buffers.current u in
              let d : CurrentFacts c (accounts s) = current_facts c (accounts s) f.buffers.current in
              rw i (record { program = rw v (program_known s a f.program); stack = rw v d.few_stack; heap = rw v d.few_heap })
          | no q ↦ record_same (called_invocation c a registers w f.below f.registers k (omega arith)) (g.records k l (omega arith))
        ]

    -- the invariant holds after it
    called_good : Good s (record { control = called c a registers; pool = b.pool }) (at_depth r (suc r.depth))
    called_good =
        let f = call_shows in
        let w = f.buffers.control in
        let n = called-frames c a registers w f.below f.registers in
        let x = called_entry c a registers w f.below f.registers in
        let v = called_valid c a registers w f.below f.registers in
        keep_other g (record { control = called c a registers; pool = b.pool }) (λ i l. rw (x i) (g.ranged i l))
        (λ d q i l. claims_ext c (called c a registers) (copy_of d q) i (x i)) (λ d q i l h. x i)
        (λ d q i l h k m. refl)
        (records_valid s (called c a registers) b.pool f.buffers.snapshot v (rw n f.buffers.pool) called_record)
        called_record n (suc r.depth) (omega (arith, g.deep.current, called-invocations c a registers w f.below f.registers))

  -- a call keeps the invariant, one deeper if it is accepted
  pub keep_call : (a : Account) (registers : List ℕ) → GoodAfter s b r (call a registers)
  unfolding step_of call_number call_control effect replay_effect
  keep_call a registers =
      by_test (accepted s b (call a registers))
      (λ e.
      let n : call_check s c b.pool a (length registers) ≡ Ok tt = check_passed _ e in
      rw (e, n) (called_good a registers n))
      (λ e. keep_refused g (call a registers) e)

  -- ---- a return

  module _ (size : ℕ) (e : return_check s c b.pool size ≡ Ok tt) where
    -- what the check has shown
    return_shows : ReturnFacts s c b.pool size
    return_shows = return_facts s c b.pool size e

    -- the records that stay live are as they were, but for the caller's, which has the heap of the invocation that returns
    returned_record : (k : ℕ) → 1 ≤ k → k ≤ invocations (returned c) → LiveRecord s (returned c) k
    returned_record k l m =
        let f = return_shows in
        let w = f.buffers.control in
        let n = returned-invocations c w f.above in
        elim (ℕ_discrete k (invocations c - 1)) [
          | yes q ↦
              let v = returned_caller c w f.above (accounts s) f.buffers.current in
              let d : CurrentFacts c (accounts s) = current_facts c (accounts s) f.buffers.current in
              let x : LiveRecord s c (invocations c - 1) = g.records (invocations c - 1) (omega arith) (omega arith) in
              rw q (record { program = rw v x.program; stack = rw v x.stack; heap = rw v d.few_heap })
          | no q ↦ record_same (returned_invocation c w f.above k (omega arith)) (g.records k l (omega arith))
        ]

    -- an entry is as it was, or zeros
    returned_range : (i : ℕ) → i < frames c → EntryRange (frame_entry_of (returned c) i)
    returned_range i l =
        rw (returned_entry c return_shows.buffers.control return_shows.above i l)
        (by_test (leaves (depth c) (frame_entry_of c i)) (λ t. rw t zero_range) (λ t. rw t (g.ranged i l)))

    -- the invariant holds after it
    returned_good : Good s (record { control = returned c; pool = b.pool }) (at_depth r (r.depth - 1))
    returned_good =
        let f = return_shows in
        let w = f.buffers.control in
        let n = returned-frames c w f.above in
        keep_other g (record { control = returned c; pool = b.pool }) returned_range
        (λ d q i l. returned_copy c w f.above (record { 0 = d }) (record { 0 = q }) i)
        (λ d q i l h.
        returned_entry c w f.above i l ∙ rw (copy_stays (depth c) _ _ (frame_entry_of c i) (sym (claims-holds c i (copy_of d q)) ∙ h)))
        (λ d q i l h k m. refl)
        (records_valid s (returned c) b.pool f.buffers.snapshot (returned_valid c w f.above) (rw n f.buffers.pool) returned_record)
        returned_record n (r.depth - 1) (omega (arith, g.deep.current, returned-invocations c w f.above, f.above))

  -- a return keeps the invariant, one less deep if it is accepted
  pub keep_return : (registers : List ℕ) → GoodAfter s b r (return registers)
  unfolding step_of return_number return_control effect replay_effect
  keep_return registers =
      by_test (accepted s b (return registers))
      (λ e.
      let n : return_check s c b.pool (length registers) ≡ Ok tt = check_passed _ e in
      rw (e, n) (returned_good (length registers) n))
      (λ e. keep_refused g (return registers) e)
