-- The two store calls and a record's write keep the invariant, accepted or refused. Assumes nothing.
use Prim.Native.Nat.{ℕ}
use mathlib.Core.Path.{◌≡◌, refl}
use mathlib.Core.Bool.{true}
use mathlib.Core.List.{List}
use lib.ListN.{length}
use lib.Dec.{eqb}
use borrow.Author.Tests.{eqb-true, eqb-false}
use Rattle.words.specs.Words.{word_bytes}
use Rattle.words.proofs.Word.{length-word_bytes}
use Rattle.choice.specs.Choice.{pick}
use Rattle.choice.proofs.Tests.{by_test}
use Rattle.refusal.proofs.Checks.{refusal_number}
use Rattle.refusal.specs.Numbers.{done}
use Rattle.address.specs.Address.{type_of}
use Rattle.control.specs.Buffers.{Buffers}
use Rattle.segments.specs.Kinds.{kind_store, kind_store_span, is_store}
use Rattle.translate.specs.Place.{number_of_answer, Translation}
use Rattle.translate.specs.Translate.{translate_of}
use Rattle.access.specs.Stores.{control_after, pool_after, store_outcome, store_control, store_pool}
use Rattle.records.specs.Layout.{Layout, encoded}
use Rattle.hekthumar.specs.Steps.{store, store_span, write_record, step_of}
use Rattle.history.specs.Calls.{accepted, effect}
use Rattle.history.specs.Records.{WritesAreSpans}
use Rattle.history.specs.Replay.{Replay, in_data, stored, replay_effect}
use Rattle.history.proofs.Good.{Good}
use Rattle.history.proofs.Others.{GoodAfter}
use Rattle.history.proofs.Refused.{keep_refused}
use Rattle.history.proofs.RecordCalls.{writes_are_spans}
use Rattle.history.proofs.Stored.{keep_store, keep_region_store}
use Rattle.std.specs.Prelude.{Err, Ok}

module _ {s : List ℕ} {b : Buffers} {r : Replay} (g : Good s b r) where
  -- by translation's answer: an accepted store goes by its type, and a refused one changes nothing
  keep_answer : (kind a n : ℕ) (bytes : List ℕ) → length bytes ≡ n → is_store kind ≡ true
      → (t : Translation) → translate_of s b.control b.pool kind a n ≡ t
      → Good s (record { control = control_after b.control t; pool = pool_after s b.pool bytes t })
      (pick (eqb (number_of_answer t) done) (pick (in_data a) (stored r a bytes) r) r)
  keep_answer kind a n bytes size k (Ok q) e =
      by_test (in_data a) (λ h. rw h (keep_store g kind a bytes n size k e (eqb-true (type_of a) 3 h)))
      (λ h. rw h (keep_region_store g kind a bytes n size k e (eqb-false (type_of a) 3 h)))
  keep_answer kind a n bytes size k (Err x) e = rw (refusal_number x) g

  -- a store
  pub keep_store_call : (a n v : ℕ) → GoodAfter s b r (store a n v)
  unfolding step_of effect replay_effect store_outcome store_control store_pool
  keep_store_call a n v =
      rw (length-word_bytes n v) (keep_answer kind_store a n (word_bytes n v) (length-word_bytes n v) refl _ refl)

  -- a span store
  pub keep_store_span_call : (a : ℕ) (bytes : List ℕ) → GoodAfter s b r (store_span a bytes)
  unfolding step_of effect replay_effect store_outcome store_control store_pool
  keep_store_span_call a bytes = keep_answer kind_store_span a (length bytes) bytes refl refl _ refl

  -- a record's write: accepted it is that span store, refused it changes nothing
  pub keep_write_record : (l : Layout) (a : ℕ) (fields : List ℕ) → GoodAfter s b r (write_record l a fields)
  unfolding effect WritesAreSpans
  keep_write_record l a fields =
      by_test (accepted s b (write_record l a fields))
      (λ e. rw ((writes_are_spans s b l a fields).step e) (keep_store_span_call a (encoded l.widths fields)))
      (λ e. keep_refused g (write_record l a fields) e)
