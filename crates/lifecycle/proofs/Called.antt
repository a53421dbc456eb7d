-- Both regions stay right over a call: every entry stays, and the new record repeats the caller's sizes. Assumes nothing.
use Rattle.std.proofs.Common.{ℕ, ◌+◌, ◌≤◌, ◌<◌, ◌≡◌, refl, ap, ◌∙◌, inl, List, arith, length}
use Rattle.std.proofs.Math.Decide.{ℕ_discrete}
use Rattle.snapshot.specs.declared.accounts.Account.{Account}
use Rattle.control.specs.Control.{frames, invocations, pages_of, size_of, size_in}
use Rattle.control.specs.declared.shadow.Region.{Region}
use Rattle.control.specs.declared.shadow.Region.TheVariants.{Stack, Heap}
use Rattle.control.specs.declared.shadow.Invocation.{Invocation}
use Rattle.frames.specs.Table.{frame_entry_of}
use Rattle.invoke.specs.Invoke.{called, call_check}
use Rattle.invoke.proofs.Accepted.{program_fits, CallFacts, call_facts}
use Rattle.invoke.proofs.Depth.{callee, called-frames, called-invocations, called_invocation, called_entry, called_new}
use Rattle.lifecycle.specs.Regions.{Rights}
use Rattle.lifecycle.proofs.Moves.{usage_same, Same, same_held}
use Rattle.lifecycle.proofs.Tagged.{Repeats, repeats_tagged}
use Rattle.std.specs.Prelude.{Ok}

-- the callee's size of a region is the caller's
callee_size : (c : List ℕ) (a : Account) (r : Region) → pages_of (callee c a) r ≡ size_of c r
callee_size c a Stack = refl
callee_size c a Heap = refl

module _ (s c p : List ℕ) (a : Account) (registers : List ℕ) (accepted : call_check s c p a (length registers) ≡ Ok tt) where
  -- what the checks have shown
  facts : CallFacts s c p a (length registers)
  facts = call_facts s c p a (length registers) accepted

  -- the frame count stays
  count_stays : frames (called c a registers) ≡ frames c
  count_stays = called-frames c a registers facts.buffers.control facts.below facts.registers

  -- one invocation more is live
  one_more : invocations (called c a registers) ≡ invocations c + 1
  one_more = called-invocations c a registers facts.buffers.control facts.below facts.registers

  -- every entry stays
  entry_stays : (i : ℕ) → frame_entry_of (called c a registers) i ≡ frame_entry_of c i
  entry_stays = called_entry c a registers facts.buffers.control facts.below facts.registers

  module _ (r : Region) where
    -- the sizes of the live invocations stay
    old_sizes : (j : ℕ) → j ≤ invocations c → size_in (called c a registers) r j ≡ size_in c r j
    old_sizes j l =
        ap (λ (x : Invocation). pages_of x r) (called_invocation c a registers facts.buffers.control facts.below facts.registers j l)

    -- the new record has the caller's
    new_size : size_in (called c a registers) r (invocations c + 1) ≡ size_of c r
    new_size =
        let fits : a.0 < 65536 = program_fits s a facts.program facts.buffers.snapshot in
        ap (λ (x : Invocation). pages_of x r)
        (called_new c a registers facts.buffers.control facts.below facts.registers _ facts.buffers.current fits)
        ∙ callee_size c a r

    -- the region's size and entries stay
    called_same : Same c (called c a registers) r
    called_same = record { count = count_stays; size = rw one_more new_size; entry = λ i l. inl (entry_stays i) }

    -- and its sizes, which the new record repeats
    called_repeats : Repeats c (called c a registers) r
    called_repeats =
        record {
          live = facts.control.some_live;
          more = omega (arith, one_more);
          sizes = old_sizes;
          further = λ j l m.
              elim (ℕ_discrete j (invocations c)) [
                | yes e ↦ rw e (old_sizes (invocations c) (omega arith))
                | no d ↦ let e : j ≡ invocations c + 1 = omega (arith, one_more) in rw e new_size
              ];
        }

  -- both regions stay right
  pub called_right : Rights c → Rights (called c a registers)
  called_right h =
      record {
        held = λ r. same_held (called_same r) (h.held r);
        tagged = repeats_tagged (called_repeats Stack) (called_same Stack) h.tagged;
        few = λ i l. omega (arith, usage_same (entry_stays i), h.few i (rw count_stays at l));
      }
