-- A begin takes the edition that is asked for. A call and a return keep the one that is there: all that they write is the number of live
-- invocations, records and entries of the frame table. Assumes nothing.
use Rattle.std.proofs.Common.{ℕ, ◌+◌, ◌-◌, ◌≡◌, refl, ap, ◌∙◌, List, arith, length}
use Rattle.std.proofs.Math.Decide.{ℕ_discrete}
use Rattle.layout.specs.Control.{registers_size}
use Rattle.refusal.specs.Checks.{or_keep, Check}
use Rattle.refusal.proofs.Checks.{by_check}
use Rattle.snapshot.specs.declared.accounts.Account.{Account}
use Rattle.control.specs.Control.{frames, invocations, depth, edition, current, put_invocation, clear_invocation}
use Rattle.control.specs.declared.shadow.Region.TheVariants.{Stack, Heap}
use Rattle.control.proofs.Live.{live-edition}
use Rattle.control.proofs.Records.{record_edition, put_only, clear_only, pages_only}
use Rattle.frames.specs.Table.{put_frame_entry}
use Rattle.frames.proofs.OnlyTable.{table_put, table_edition}
use Rattle.invoke.specs.Invoke.{fresh, call_check, called, freed_below, hand_over, return_check, returned, call_control, return_control}
use Rattle.invoke.specs.Begun.{stack_entry}
use Rattle.invoke.specs.Editions.{BeginEdition, CallEdition, ReturnEdition}
use Rattle.invoke.proofs.Accepted.{begin_facts, call_facts}
use Rattle.invoke.proofs.Fresh.{fresh-edition}
use Rattle.invoke.proofs.Begun.{start_fits, begin_none, begin_one}
use Rattle.invoke.proofs.Freed.{freed_only}
use Rattle.invoke.proofs.Depth.{callee}
use Rattle.std.specs.Prelude.{Ok}

-- a call that keeps it where it is accepted: refused, it keeps the whole block
pub or_edition : (k : Check) (c c' : List ℕ) → (k ≡ Ok tt → edition c' ≡ edition c) → edition (or_keep k c c') ≡ edition c
or_edition k c c' h = by_check k (λ e. rw e (h e)) (λ r e. rw e refl)

-- ---- the three

pub begin_edition : BeginEdition
begin_edition s c p x e =
    let f = begin_facts s (length c) (length p) x e in
    let bare : List ℕ = fresh (length c) x in
    let taken : edition bare ≡ x.edition = fresh-edition (length c) (length p) x f.room (start_fits s c p x e) in
    elim (ℕ_discrete x.pages 0) [
      | yes z ↦ ap edition (begin_none s c p x e z).control ∙ taken
      | no z ↦
          ap edition (begin_one s c p x e (omega (arith, f.few_pages))).control
          ∙ record_edition 1 (pages_only (put_frame_entry bare 0 stack_entry) 1 Stack 1)
          ∙ table_edition (table_put bare 0 stack_entry)
          ∙ taken
    ]

module _ (c : List ℕ) where
  -- one record is put anew, then the live invocations
  called-edition : (a : Account) (registers : List ℕ) → length registers ≡ registers_size → edition (called c a registers) ≡ edition c
  unfolding called
  called-edition a registers e =
      live-edition (put_invocation c (invocations c + 1) (callee c a) registers) (invocations c + 1)
      ∙ record_edition (invocations c + 1) (put_only c (invocations c + 1) (callee c a) registers e)

  -- frames are freed, the heap is handed over, one record is cleared, then the live invocations
  returned-edition : edition (returned c) ≡ edition c
  unfolding returned hand_over
  returned-edition =
      let left : List ℕ = freed_below (depth c) c (frames c) in
      let handed : List ℕ = hand_over c left in
      live-edition (clear_invocation handed (invocations c)) (invocations c - 1)
      ∙ record_edition (invocations c) (clear_only handed (invocations c))
      ∙ record_edition (invocations c - 1) (pages_only left (invocations c - 1) Heap (current c).heap)
      ∙ table_edition (freed_only (depth c) c (frames c))

pub call_edition : CallEdition
unfolding call_control
call_edition s c p a registers =
    or_edition (call_check s c p a (length registers)) c (called c a registers)
    (λ e. called-edition c a registers (call_facts s c p a (length registers) e).registers)

pub return_edition : ReturnEdition
unfolding return_control
return_edition s c p out = or_edition (return_check s c p (length out)) c (returned c) (λ e. returned-edition c)
