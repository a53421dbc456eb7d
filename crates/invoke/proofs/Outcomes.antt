-- What a call and a return leave: all as it was where they are refused, and otherwise the steps in order. The check applies these by itself.
-- Assumes nothing.
use Rattle.std.proofs.Common.{ℕ, ◌+◌, ◌-◌, ◌≡◌, List, length}
use Rattle.refusal.specs.declared.Refusal.{Refusal}
use Rattle.snapshot.specs.declared.accounts.Account.{Account}
use Rattle.control.specs.Control.{frames, invocations, current, set_invocations, put_invocation, clear_invocation, set_pages, registers_of}
use Rattle.control.specs.declared.shadow.Region.TheVariants.{Heap}
use Rattle.invoke.specs.Invoke.{call_check, call_control, called, return_check, return_control, return_out, returned, hand_over, freed_below}
use Rattle.invoke.proofs.Accepted.{call_facts, return_facts}
use Rattle.std.specs.Prelude.{Err, Ok}

-- ---- call

module _ (s c p : List ℕ) (a : Account) (registers : List ℕ) where
  module _ (x : Refusal) (e : call_check s c p a (length registers) ≡ Err x) where
    -- a refusal leaves the block as it was
    pub call_kept : call_control s c p a registers ≡ c
    unfolding call_control
    call_kept = rw e

  module _ (e : call_check s c p a (length registers) ≡ Ok tt) where
    -- the block with the new record, then the new count
    pub call_made : call_control s c p a registers
        ≡ set_invocations
        (put_invocation c (invocations c + 1) (record { program = a; stack = (current c).stack; heap = (current c).heap }) registers)
        (invocations c + 1)
    unfolding call_control called
    call_made = rw e

pub ruleset call_steps = (call_facts, call_kept, call_made)

-- ---- return

module _ (s c p out : List ℕ) where
  module _ (x : Refusal) (e : return_check s c p (length out) ≡ Err x) where
    -- a refusal leaves both buffers as they were
    pub return_kept : return_control s c p out ≡ c
    unfolding return_control
    return_kept = rw e

    pub return_blank : return_out s c p out ≡ out
    unfolding return_out
    return_blank = rw e

  module _ (e : return_check s c p (length out) ≡ Ok tt) where
    -- the block after the four writes
    pub return_made : return_control s c p out
        ≡ set_invocations
        (clear_invocation (set_pages (freed_below (invocations c - 1) c (frames c)) (invocations c - 1) Heap (current c).heap) (invocations c))
        (invocations c - 1)
    unfolding return_control returned hand_over
    return_made = rw e

    -- and the registers
    pub return_given : return_out s c p out ≡ registers_of c (invocations c)
    unfolding return_out
    return_given = rw e

pub ruleset return_steps = (return_facts, return_kept, return_blank, return_made, return_given)
