-- Both regions stay right over each call, accepted or refused; an accepted begin makes them so. Assumes nothing.
use Rattle.std.proofs.Common.{ℕ, ◌≡◌, List, arith, length}
use Rattle.refusal.proofs.Checks.{by_check}
use Rattle.snapshot.specs.declared.accounts.Account.{Account}
use Rattle.control.specs.declared.shadow.Region.TheVariants.{Stack}
use Rattle.invoke.specs.Invoke.{fresh, begun, called, returned, begin_check, call_check, return_check, begin_control, call_control, return_control}
use Rattle.invoke.specs.declared.begin.Start.{Start}
use Rattle.invoke.proofs.Accepted.{RoomFacts, room_facts, BeginFacts, begin_facts}
use Rattle.invoke.proofs.Fresh.{fresh-frames, fresh_valid}
use Rattle.invoke.proofs.Begun.{start_fits}
use Rattle.regions.specs.Resize.{resize_check, resize_of}
use Rattle.lifecycle.specs.Regions.{Rights}
use Rattle.lifecycle.proofs.Begun.{fresh_right}
use Rattle.lifecycle.proofs.Called.{called_right}
use Rattle.lifecycle.proofs.Returned.{returned_right}
use Rattle.lifecycle.proofs.Resized.{or_right, resized_to_right, resized_right}
use Rattle.std.specs.Prelude.{Ok}

module _ (s c p : List ℕ) where
  -- an accepted begin: its stack is resized in a fresh control block
  pub begun_right : (x : Start) → begin_check s (length c) (length p) x ≡ Ok tt → Rights (begun (length c) p x).control
  unfolding begun
  begun_right x accepted =
      let f : BeginFacts s (length c) (length p) x = begin_facts s (length c) (length p) x accepted in
      let room : RoomFacts (length c) (length p) = room_facts (length c) (length p) f.room in
      let fits = start_fits s c p x accepted in
      resized_to_right (fresh (length c) x) p Stack x.pages (fresh_valid (length c) (length p) x f.room fits)
      (omega (arith, room.pool_size, fresh-frames (length c) (length p) x f.room fits)) (omega (arith, f.few_pages))
      (fresh_right (length c) (length p) x f.room fits)

  -- a begin
  pub begin_right : (x : Start) → Rights c → Rights (begin_control s c p x)
  unfolding begin_control
  begin_right x h = or_right (begin_check s (length c) (length p) x) c (begun (length c) p x).control (begun_right x) h

  -- a call
  pub call_right : (a : Account) (registers : List ℕ) → Rights c → Rights (call_control s c p a registers)
  unfolding call_control
  call_right a registers h =
      or_right (call_check s c p a (length registers)) c (called c a registers) (λ t. called_right s c p a registers t h) h

  -- a return
  pub return_right : (out : List ℕ) → Rights c → Rights (return_control s c p out)
  unfolding return_control
  return_right out h = or_right (return_check s c p (length out)) c (returned c) (λ t. returned_right s c p (length out) t h) h

  -- a resize
  pub resize_right : (code n : ℕ) → Rights c → Rights (resize_of s c p code n).after.control
  unfolding resize_of
  resize_right code n h = by_check (resize_check s c p code n) (λ e. rw e (resized_right s c p code n e h)) (λ r e. rw e h)
