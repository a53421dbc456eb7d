-- The calls that change nothing keep the invariant, and an accepted load of account data gives the plain copy's bytes.
-- Assumes nothing.
use Prim.Native.Nat.{ℕ, ◌+◌, ◌*◌, ◌/◌, ◌%◌, ◌≤◌, ◌<◌}
use mathlib.Core.Path.{◌≡◌, refl, sym, ap, ◌∙◌}
use mathlib.Core.Bool.{true}
use mathlib.Core.List.{List}
use native.Mathlib.Omega.{arith}
use lib.ListN.{length, get_or}
use borrow.Author.Tests.{eqb-true, eq-eqb}
use Rattle.layout.specs.Page.{page_size}
use Rattle.words.specs.Words.{word_at, bytes_at}
use Rattle.words.proofs.Word.{word_ext}
use Rattle.words.proofs.Run.{bytes_at_ext, length-zeros}
use Rattle.refusal.specs.Numbers.{done}
use Rattle.address.specs.Address.{type_of, index_of, offset_of}
use Rattle.control.specs.Buffers.{Buffers}
use Rattle.frames.specs.Table.{frame_of}
use Rattle.frames.proofs.Claims.{frame_found}
use Rattle.segments.specs.Kinds.{kind_load, kind_load_span}
use Rattle.translate.specs.Translate.{translate_of}
use Rattle.translate.proofs.Answered.{allowed}
use Rattle.translate.proofs.Accepted.{data_accepted}
use Rattle.translate.specs.Place.{Outcome, outcome_of, Translation}
use Rattle.access.proofs.Outcomes.{answered_outcome}
use Rattle.access.specs.Loads.{value_in, load_of, load_span_outcome, load_span_out}
use Rattle.access.proofs.Seen.{seen, load_value, load_span_bytes}
use Rattle.records.specs.Layout.{Layout, record_length}
use Rattle.records.specs.Calls.{blank, read_outcome, read_bytes}
use Rattle.hekthumar.specs.Steps.{Call, begin, translation, load, store, fetch, load_span, store_span, read_record, write_record, call, return, resize, change_list, page_view, Step, step_of}
use Rattle.history.specs.Replay.{Replay, in_data}
use Rattle.history.specs.Claims.{LoadRight}
use Rattle.history.specs.Records.{ReadsAreSpans}
use Rattle.history.proofs.Good.{copy_of, Good}
use Rattle.history.proofs.Pages.{touched_found}
use Rattle.history.proofs.RecordCalls.{reads_are_spans}
use Rattle.std.specs.Prelude.{None, Option, Some}
use Rattle.pages.specs.declared.Frame.{Frame}

-- ---- what is seen of a page is the plain copy

module _ {s : List ℕ} {b : Buffers} {r : Replay} (g : Good s b r) (a n : ℕ) (within : offset_of a % page_size + n ≤ page_size) where
  -- whatever n bytes determine reads the same from the frame, or else the original, and from the plain copy
  seen_plain : {X : Type 0} (read : List ℕ → ℕ → X)
      → ((x y : List ℕ) (i j : ℕ) → ((k : ℕ) → k < n → get_or x (i + k) 0 ≡ get_or y (j + k) 0) → read x i ≡ read y j)
      → (f : Option Frame) → frame_of b.control (copy_of (index_of a) (offset_of a / page_size)) ≡ f
      → seen read s b.pool a f ≡ read (r.plain (index_of a)) (offset_of a)
  seen_plain read ext (Some f) e =
      let i = frame_found b.control _ f e in
      ext _ _ _ _
      (λ k l.
      let u : page_size * f.0 + offset_of a % page_size + k ≡ page_size * f.0 + (offset_of a % page_size + k) = omega arith in
      let v : offset_of a + k ≡ page_size * (offset_of a / page_size) + (offset_of a % page_size + k) = omega arith in
      rw (u, v) (g.held (index_of a) (offset_of a / page_size) f.0 i.below i.passes (offset_of a % page_size + k) (omega arith)))
  seen_plain read ext None e =
      ext _ _ _ _
      (λ k l.
      let ha : index_of a < 65536 = omega arith in
      let hp : offset_of a / page_size < 65536 = omega arith in
      let v : offset_of a + k ≡ page_size * (offset_of a / page_size) + (offset_of a % page_size + k) = omega arith in
      rw v
      (sym (g.kept (index_of a) (offset_of a / page_size) ha hp (touched_found g _ _ ha hp ∙ rw e) (offset_of a % page_size + k) (omega arith))))

-- ---- loads

module _ {s : List ℕ} {b : Buffers} {r : Replay} (g : Good s b r) where
  -- an accepted load in type 3 gives the number that the plain copy's bytes spell
  load_right : (a n : ℕ) → (outcome_of (load_of s b.control b.pool a n)).number ≡ done → in_data a ≡ true
      → value_in (load_of s b.control b.pool a n) ≡ word_at n (r.plain (index_of a)) (offset_of a)
  unfolding load_of
  load_right a n e h =
      let type : type_of a ≡ 3 = eqb-true (type_of a) 3 h in
      let t₀ : Translation = translate_of s b.control b.pool kind_load a n in
      allowed t₀ (ap (λ (o : Outcome). o.number) (sym (answered_outcome s b.control b.pool n t₀)) ∙ e)
      (λ q t.
      load_value s b.control b.pool a n type t
      ∙ seen_plain g a n (data_accepted s b.control b.pool kind_load a n t refl type).0.within (word_at n) (word_ext n) _ refl)

  -- an accepted span load in type 3 gives the plain copy's bytes
  load_span_right : (a : ℕ) (out : List ℕ) → (load_span_outcome s b.control b.pool a out).number ≡ done → in_data a ≡ true
      → load_span_out s b.control b.pool a out ≡ bytes_at (length out) (r.plain (index_of a)) (offset_of a)
  unfolding load_span_outcome
  load_span_right a out e h =
      let type : type_of a ≡ 3 = eqb-true (type_of a) 3 h in
      allowed (translate_of s b.control b.pool kind_load_span a (length out)) e
      (λ q t.
      load_span_bytes s b.control b.pool a out type t
      ∙ seen_plain g a (length out) (data_accepted s b.control b.pool kind_load_span a (length out) t refl type).0.within
      (bytes_at (length out)) (bytes_at_ext (length out)) _ refl)

  -- so does an accepted read of a record, which is such a span load
  read_record_right : (l : Layout) (a : ℕ) → (read_outcome s b.control b.pool l a).number ≡ done → in_data a ≡ true
      → read_bytes s b.control b.pool l a ≡ bytes_at (record_length l.widths) (r.plain (index_of a)) (offset_of a)
  unfolding step_of ReadsAreSpans
  read_record_right l a e h =
      let same = (reads_are_spans s b l a).step (eq-eqb _ _ e) in
      ap (λ (x : Step). x.answer.bytes) same
      ∙ rw (length-zeros (record_length l.widths)) at (load_span_right a (blank l) (sym (ap (λ (x : Step). x.answer.number) same) ∙ e) h)

  -- every call gives what is claimed of it: of calls other than these three nothing is
  pub right_call : (k : Call) → LoadRight r k (step_of s b k).answer
  unfolding LoadRight step_of
  right_call (begin x) = tt
  right_call (translation kind a n) = tt
  right_call (load a n) = load_right a n
  right_call (store a n v) = tt
  right_call (fetch a n) = tt
  right_call (load_span a out) = load_span_right a out
  right_call (store_span a bytes) = tt
  right_call (read_record l a) = read_record_right l a
  right_call (write_record l a fields) = tt
  right_call (call a registers) = tt
  right_call (return registers) = tt
  right_call (resize region n) = tt
  right_call (change_list out) = tt
  right_call (page_view a q) = tt
