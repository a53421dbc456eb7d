-- An accepted begin makes the invariant hold, whatever the buffers held before: no page is copied, and the replay starts anew.
-- Assumes nothing.
use Prim.Native.Nat.{ℕ, ◌≤◌, ◌<◌}
use mathlib.Core.Path.{◌≡◌, refl, sym, ap}
use mathlib.Core.Bool.{true, false}
use mathlib.Core.List.{List}
use native.Mathlib.Omega.{arith}
use lib.ListN.{length}
use Rattle.choice.proofs.Tests.{by_test, differ}
use Rattle.refusal.proofs.Checks.{check_passed}
use Rattle.snapshot.specs.Header.{accounts}
use Rattle.control.specs.Control.{invocations, buffers_valid}
use Rattle.control.proofs.Facts.{buffers_valid_lem}
use Rattle.control.specs.Buffers.{Buffers}
use Rattle.control.specs.declared.shadow.Region.TheVariants.{Stack}
use Rattle.frames.specs.Table.{claims, is_found}
use Rattle.frames.proofs.Entries.{zero_range}
use Rattle.frames.proofs.Claims.{none_frame}
use Rattle.invoke.specs.declared.begin.Start.{Start}
use Rattle.invoke.specs.Invoke.{begin_check, begin_number, begin_control, begin_pool, fresh, begun}
use Rattle.invoke.proofs.Accepted.{RoomFacts, room_facts, BeginFacts, begin_facts, program_known, StartFits, begin_fits}
use Rattle.invoke.proofs.Fresh.{fresh-frames, fresh-invocations, fresh_valid, fresh_invocation, fresh-current_valid, fresh_entry, fresh-claims}
use Rattle.changes.specs.Keys.{key_claim, is_copied}
use Rattle.hekthumar.specs.Steps.{begin, step_of}
use Rattle.history.specs.Calls.{accepted, effect}
use Rattle.history.specs.Replay.{Replay, started, replay_effect}
use Rattle.history.proofs.Good.{copy_of, LiveRecord, Good}
use Rattle.history.proofs.Others.{GoodAfter}
use Rattle.history.proofs.Refused.{keep_refused}
use Rattle.history.proofs.Resized.{resized_good}
use Rattle.std.specs.Prelude.{Ok}

module _ (s : List ℕ) (size : ℕ) (p : List ℕ) (x : Start) (e : begin_check s size (length p) x ≡ Ok tt) where
  -- what the check has shown
  facts : BeginFacts s size (length p) x
  facts = begin_facts s size (length p) x e

  -- the lengths, by name
  room : RoomFacts size (length p)
  room = room_facts size (length p) facts.room

  -- the program is below the account count
  known : x.program.0 < accounts s
  known = program_known s x.program facts.program

  -- what is asked fits a fresh control block
  fits : StartFits x
  fits = begin_fits facts

  -- the one record is the program's, with no pages
  fresh_record : (k : ℕ) → 1 ≤ k → k ≤ invocations (fresh size x) → LiveRecord s (fresh size x) k
  fresh_record k l m =
      let i : k ≡ 1 = omega (arith, fresh-invocations size (length p) x facts.room fits) in
      let n = fresh_invocation size (length p) x facts.room fits in
      rw i (record { program = rw n known; stack = rw n (omega arith); heap = rw n (omega arith) })

  -- no entry claims a page
  none : (a q i : ℕ) → claims (fresh size x) (copy_of a q) i ≡ false
  none a q i = fresh-claims size (length p) x facts.room fits i (copy_of a q)

  -- so none is copied
  none_copied : (k : ℕ) → is_copied (fresh size x) k ≡ false
  unfolding is_copied
  none_copied k = ap is_found (none_frame (fresh size x) (key_claim k) (λ j l. fresh-claims size (length p) x facts.room fits j (key_claim k)))

  -- a fresh control block is valid with the pool
  fresh-buffers : buffers_valid s (fresh size x) p ≡ true
  fresh-buffers =
      buffers_valid_lem s (fresh size x) p
      (record {
        snapshot = facts.snapshot;
        control = fresh_valid size (length p) x facts.room fits;
        pool = omega (arith, room.pool_size, fresh-frames size (length p) x facts.room fits);
        current = fresh-current_valid size (length p) x facts.room fits (accounts s) known;
      })

  -- the invariant holds of a fresh control block
  fresh_good : Good s (record { control = fresh size x; pool = p }) (started s)
  fresh_good =
      record {
        buffers = fresh-buffers;
        records = fresh_record;
        ranged = λ i l. rw (fresh_entry size (length p) x facts.room fits i) zero_range;
        sized = λ a. refl;
        claimed = λ k l. sym (none_copied k);
        once = λ a q i j l m h n. absurd (differ _ h (none a q i));
        live = λ a q i l h. absurd (differ _ h (none a q i));
        held = λ a q i l h. absurd (differ _ h (none a q i));
        kept = λ a q l m t k n. refl;
        deep =
            record {
              current = sym (fresh-invocations size (length p) x facts.room fits);
              taken = λ a q i l h. absurd (differ _ h (none a q i));
            };
      }

  -- and once its stack is resized
  pub begun_good : Good s (begun size p x) (started s)
  unfolding begun
  begun_good = resized_good fresh_good Stack x.pages (omega (arith, facts.few_pages))

-- it holds after an accepted begin, from any buffers
pub opens : (s : List ℕ) (b : Buffers) (x : Start) → accepted s b (begin x) ≡ true → Good s (step_of s b (begin x)).after (started s)
unfolding step_of begin_number begin_control begin_pool
opens s b x e =
    let n : begin_check s (length b.control) (length b.pool) x ≡ Ok tt = check_passed _ e in
    rw n (begun_good s (length b.control) b.pool x n)

-- a begin keeps it, accepted or refused
pub keep_begin : {s : List ℕ} {b : Buffers} {r : Replay} → Good s b r → (x : Start) → GoodAfter s b r (begin x)
unfolding effect replay_effect
keep_begin {s} {b} g x = by_test (accepted s b (begin x)) (λ e. rw e (opens s b x e)) (λ e. keep_refused g (begin x) e)
