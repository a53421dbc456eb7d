-- Document 01, "Numbers given back": a refused call changes nothing, gives the value 0, and leaves a lent buffer as it was given. One
-- statement over all calls. Assumes nothing.
use Prim.Native.Nat.{ℕ}
use mathlib.Core.Path.{◌≡◌, refl}
use mathlib.Core.Bool.{false}
use mathlib.Core.List.{List, []}
use lib.ListN.{length}
use lib.Dec.{eqb, ltb}
use Rattle.words.specs.Words.{word_bytes}
use Rattle.words.proofs.Word.{length-word_bytes}
use Rattle.choice.proofs.Tests.{by_test, differ}
use Rattle.refusal.specs.Numbers.{done}
use Rattle.refusal.specs.Checks.{check_number, or_keep, need, Check}
use Rattle.refusal.specs.declared.Refusal.TheVariants.{BadList}
use Rattle.control.specs.Control.{size_of}
use Rattle.control.specs.declared.shadow.Region.{Region}
use Rattle.control.specs.Buffers.{Buffers}
use Rattle.segments.specs.Kinds.{kind_load, kind_store, kind_fetch, kind_load_span, kind_store_span}
use Rattle.translate.specs.Place.{number_of_answer, Translation}
use Rattle.translate.specs.Translate.{translate_of}
use Rattle.access.specs.Loads.{value_in, answered, load_of, fetch_of, filled, load_span_outcome, load_span_out}
use Rattle.access.specs.Stores.{control_after, pool_after, store_outcome, store_control, store_pool}
use Rattle.records.specs.Layout.{encoded, valid_fields}
use Rattle.records.specs.Calls.{blank, judged, read_valid, read_outcome, read_bytes, write_outcome, write_control, write_pool}
use Rattle.invoke.specs.Invoke.{begin_check, begin_number, begin_control, begin_pool, call_check, call_number, call_control, return_check, return_number, return_control, return_out}
use Rattle.regions.specs.Resize.{Resized, grow_check, grow_to, shrink_check, shrink_control, resize_to, resize_check, region_of, or_refused, resize_of}
use Rattle.changes.specs.List.{list_check, change_list_number, change_list_out}
use Rattle.apply.specs.Apply.{list_good, apply_number, apply_data}
use Rattle.view.specs.View.{view_of, view_number, view_bytes}
use Rattle.refusal.specs.declared.Refusal.{Refusal}
use Rattle.view.specs.declared.View.{View}
use Rattle.hekthumar.specs.Steps.{Call, begin, translation, load, store, fetch, load_span, store_span, read_record, write_record, call, return, resize, change_list, page_view, step_of}
use Rattle.history.specs.Calls.{accepted}
use Rattle.history.specs.Refusals.{given, Unchanged, RefusedKeeps, ApplyKeeps}
use Rattle.history.specs.Replay.{Replay}
use Rattle.history.proofs.Good.{Good}
use Rattle.history.proofs.Others.{GoodAfter}
use Rattle.std.specs.Prelude.{Result, Err, Ok}

-- ---- by the parts of a call

-- a check that stops keeps a buffer
stop_keeps : (x : Check) (old new : List ℕ) → eqb (check_number x) done ≡ false → or_keep x old new ≡ old
stop_keeps (Ok tt) old new e = absurd (differ _ refl e)
stop_keeps (Err r) old new e = refl

module _ (s c p : List ℕ) where
  -- a refused translation gives a load no value
  no_value : (n : ℕ) (t : Translation) → eqb (number_of_answer (answered s c p n t)) done ≡ false → value_in (answered s c p n t) ≡ 0
  no_value n (Ok q) e = absurd (differ _ refl e)
  no_value n (Err r) e = refl

  -- and leaves the buffer of a span load
  not_filled : (out : List ℕ) (t : Translation) → eqb (number_of_answer t) done ≡ false → filled s c p out t ≡ out
  not_filled out (Ok q) e = absurd (differ _ refl e)
  not_filled out (Err r) e = refl

  -- and leaves the control block of a store
  control_left : (t : Translation) → eqb (number_of_answer t) done ≡ false → control_after c t ≡ c
  control_left (Ok q) e = absurd (differ _ refl e)
  control_left (Err r) e = refl

  -- and its pool
  pool_left : (bytes : List ℕ) (t : Translation) → eqb (number_of_answer t) done ≡ false → pool_after s p bytes t ≡ p
  pool_left bytes (Ok q) e = absurd (differ _ refl e)
  pool_left bytes (Err r) e = refl

  -- a refused view is empty
  no_view : (v : Result View Refusal) → eqb (view_number v) done ≡ false → view_bytes s p v ≡ []
  no_view (Ok v) e = absurd (differ _ refl e)
  no_view (Err r) e = refl

-- both buffers as they were
record Left (c p : List ℕ) (o : Resized) : Type 0 where
  control : o.after.control ≡ c
  pool : o.after.pool ≡ p

module _ (c p : List ℕ) where
  -- a resize refused by its size
  resize_to_left : (r : Region) (n : ℕ) → eqb (check_number (resize_to c p r n).answer) done ≡ false → Left c p (resize_to c p r n)
  unfolding resize_to grow_to shrink_control
  resize_to_left r n =
      by_test (ltb (size_of c r) n)
      (λ t. rw t (λ e. record { control = stop_keeps (grow_check c r n) c _ e; pool = stop_keeps (grow_check c r n) p _ e }))
      (λ t.
      rw t
      (by_test (ltb n (size_of c r)) (λ u. rw u (λ e. record { control = stop_keeps (shrink_check c r n) c _ e; pool = refl }))
      (λ u. rw u (λ e. record { control = refl; pool = refl }))))

  -- or by the tests before it
  resize_left : (x : Check) (o : Resized) → (eqb (check_number o.answer) done ≡ false → Left c p o) → eqb (check_number (or_refused x c p o).answer) done ≡ false
      → Left c p (or_refused x c p o)
  resize_left (Ok tt) o f e = f e
  resize_left (Err r) o f e = record { control = refl; pool = refl }

-- ---- the statement

module _ (s : List ℕ) (b : Buffers) where
  -- the control block
  abbrev c : List ℕ
  c = b.control

  -- the pool
  abbrev p : List ℕ
  p = b.pool

  -- buffers are equal where both are
  same_buffers : {c' p' : List ℕ} → c' ≡ c → p' ≡ p → record { control = c'; pool = p' } ≡ b
  same_buffers e f = rw (e, f)

  -- a refused store of either kind
  store_left : (kind a : ℕ) (bytes : List ℕ) → eqb (store_outcome s c p kind a (length bytes)).number done ≡ false
      → record { control = store_control s c p kind a (length bytes); pool = store_pool s c p kind a bytes } ≡ b
  unfolding store_outcome store_control store_pool
  store_left kind a bytes e =
      let t : Translation = translate_of s c p kind a (length bytes) in
      same_buffers (control_left s c p t e) (pool_left s c p bytes t e)

  -- "Every number but 0 changes nothing": a refused call of any kind
  pub refused_keeps : (k : Call) → accepted s b k ≡ false → Unchanged b k (step_of s b k)
  unfolding step_of given read_outcome read_bytes write_outcome write_control write_pool judged begin_number begin_control begin_pool load_of fetch_of load_span_outcome load_span_out call_number call_control return_number return_control return_out resize_of change_list_number change_list_out
  refused_keeps (begin x) e =
      let k : Check = begin_check s (length c) (length p) x in
      record { after = same_buffers (stop_keeps k c _ e) (stop_keeps k p _ e); value = refl; bytes = refl }
  refused_keeps (translation kind a n) e = record { after = refl; value = refl; bytes = refl }
  refused_keeps (load a n) e = record { after = refl; value = no_value s c p n (translate_of s c p kind_load a n) e; bytes = refl }
  refused_keeps (store a n v) e =
      let l : length (word_bytes n v) ≡ n = length-word_bytes n v in
      record { after = rw l at (store_left kind_store a (word_bytes n v) (rw l e)); value = refl; bytes = refl }
  refused_keeps (fetch a n) e = record { after = refl; value = no_value s c p n (translate_of s c p kind_fetch a n) e; bytes = refl }
  refused_keeps (load_span a out) e =
      record { after = refl; value = refl; bytes = not_filled s c p out (translate_of s c p kind_load_span a (length out)) e }
  refused_keeps (store_span a bytes) e = record { after = store_left kind_store_span a bytes e; value = refl; bytes = refl }
  refused_keeps (read_record l a) e =
      record {
        after = refl;
        value = refl;
        bytes =
            by_test (read_valid s c p l a)
            (λ v. rw v (not_filled s c p (blank l) (translate_of s c p kind_load_span a (length (blank l))) (rw v at e)))
            (λ v. rw v);
      }
  refused_keeps (write_record l a fields) e =
      record {
        after = by_test (valid_fields l fields) (λ v. rw v (store_left kind_store_span a (encoded l.widths fields) (rw v at e))) (λ v. rw v);
        value = refl;
        bytes = refl;
      }
  refused_keeps (call a registers) e =
      record { after = same_buffers (stop_keeps (call_check s c p a (length registers)) c _ e) refl; value = refl; bytes = refl }
  refused_keeps (return registers) e =
      let x : Check = return_check s c p (length registers) in
      record { after = same_buffers (stop_keeps x c _ e) refl; value = refl; bytes = stop_keeps x registers _ e }
  refused_keeps (resize region n) e =
      let l = resize_left c p (resize_check s c p region n) (resize_to c p (region_of region) n) (resize_to_left c p (region_of region) n) e in
      record { after = same_buffers l.control l.pool; value = refl; bytes = refl }
  refused_keeps (change_list out) e =
      record { after = refl; value = refl; bytes = stop_keeps (list_check s c p (length out)) out _ e }
  refused_keeps (page_view a q) e = record { after = refl; value = refl; bytes = no_view s c p (view_of s c p a q) e }

-- the same as one statement
pub every_refused_keeps : RefusedKeeps
unfolding RefusedKeeps
every_refused_keeps = refused_keeps

-- and of the application of a list
pub apply_keeps : ApplyKeeps
unfolding ApplyKeeps apply_number apply_data
apply_keeps l a d e = stop_keeps (need (list_good l a (length d)) BadList) d _ e

-- so a refused call keeps the invariant
pub keep_refused : {s : List ℕ} {b : Buffers} {r : Replay} → Good s b r → (k : Call) → accepted s b k ≡ false → GoodAfter s b r k
keep_refused {s} {b} g k e = rw (e, (refused_keeps s b k e).after) g
