-- Document 01, "The replay": the calls of a history, and what each gives and leaves. The contracts of the exported functions are stated by
-- `step_of`, and so is the theorem over every history. Assumes nothing.
use Rattle.std.specs.Prelude.{ℕ, List, [], length}
use Rattle.words.specs.Words.{word_bytes}
use Rattle.refusal.specs.Checks.{check_number}
use Rattle.snapshot.specs.declared.accounts.Account.{Account}
use Rattle.control.specs.Buffers.{Buffers}
use Rattle.pages.specs.declared.Page.{Page}
use Rattle.segments.specs.Kinds.{kind_store, kind_store_span}
use Rattle.translate.specs.Place.{outcome_of, Outcome}
use Rattle.translate.specs.Translate.{translate_of}
use Rattle.access.specs.Loads.{value_in, load_of, fetch_of, load_span_outcome, load_span_out}
use Rattle.access.specs.Stores.{store_outcome, store_control, store_pool}
use Rattle.records.specs.Layout.{Layout}
use Rattle.records.specs.Calls.{read_outcome, read_bytes, write_outcome, write_control, write_pool}
use Rattle.invoke.specs.declared.begin.Start.{Start}
use Rattle.invoke.specs.Invoke.{begin_number, begin_control, begin_pool, call_number, call_control, return_number, return_control, return_out}
use Rattle.regions.specs.Resize.{resize_of}
use Rattle.changes.specs.List.{change_list_number, change_list_out}
use Rattle.view.specs.View.{view_of, view_number, view_bytes}

-- "begin, translation, load, store, fetch, span load, span store, call, return, resize, change list, page view", each with its
-- arguments but the three buffers. A lent buffer is given by the bytes that it brings: it "may be lent again and bring any bytes".
-- "where demand 3 says begin, it means either": what a begin is given has the number of its stack pages. "Both begins take the edition", which it
-- has too.
-- A record's read and its write, of every layout: document 02, "Five", "each is that one span load or store".
pub data Call : Type 0 where
  begin : Start → Call
  translation : (kind address size : ℕ) → Call
  load : (address size : ℕ) → Call
  store : (address size stored : ℕ) → Call
  fetch : (address size : ℕ) → Call
  load_span : (address : ℕ) (out : List ℕ) → Call
  store_span : (address : ℕ) (bytes : List ℕ) → Call
  read_record : Layout → (address : ℕ) → Call
  write_record : Layout → (address : ℕ) (fields : List ℕ) → Call
  call : Account → (registers : List ℕ) → Call
  return : (registers : List ℕ) → Call
  resize : (region pages : ℕ) → Call
  change_list : (out : List ℕ) → Call
  page_view : Account → Page → Call

-- the begin "that takes the number of pages"; the begin that takes none is this one with 1
abbrev pub begin_with : (program edition pages : ℕ) → Call
begin_with program edition pages = begin (record { program = record { 0 = program }; edition = edition; pages = pages })

-- what a call gives: its number, an access's distance, its value, and the bytes of its lent buffer afterwards, of its view or of its record
pub record Answer : Type 0 where
  pub number : ℕ
  pub distance : ℕ
  pub value : ℕ
  pub bytes : List ℕ

-- an answer, and the working buffers as the call leaves them
pub record Step : Type 0 where
  pub answer : Answer
  pub after : Buffers

-- an access, and a translation, which answers for one: "With 13 an access also gives the distance .., else 0"
abbrev pub accesses : Buffers → Outcome → ℕ → List ℕ → Step
accesses after o value bytes =
    record { answer = record { number = o.number; distance = o.distance; value = value; bytes = bytes }; after = after }

-- any other call
abbrev pub answers : Buffers → ℕ → List ℕ → Step
answers after number bytes = record { answer = record { number = number; distance = 0; value = 0; bytes = bytes }; after = after }

-- the working buffers, one by one
abbrev pub buffers : List ℕ → List ℕ → Buffers
buffers c p = record { control = c; pool = p }

-- one call: "Every call is lent the same read-only buffer, and the same two working buffers as the last call left them."
unfoldable pub step_of : List ℕ → Buffers → Call → Step
step_of s b (begin x) =
    answers (buffers (begin_control s b.control b.pool x) (begin_pool s b.control b.pool x)) (begin_number s b.control b.pool x) []
step_of s b (translation kind a n) = accesses b (outcome_of (translate_of s b.control b.pool kind a n)) 0 []
step_of s b (load a n) = accesses b (outcome_of (load_of s b.control b.pool a n)) (value_in (load_of s b.control b.pool a n)) []
step_of s b (store a n v) =
    accesses (buffers (store_control s b.control b.pool kind_store a n) (store_pool s b.control b.pool kind_store a (word_bytes n v)))
    (store_outcome s b.control b.pool kind_store a n)
    0 []
step_of s b (fetch a n) = accesses b (outcome_of (fetch_of s b.control b.pool a n)) (value_in (fetch_of s b.control b.pool a n)) []
step_of s b (load_span a out) =
    accesses b (load_span_outcome s b.control b.pool a out) 0 (load_span_out s b.control b.pool a out)
step_of s b (store_span a bytes) =
    accesses (buffers (store_control s b.control b.pool kind_store_span a (length bytes)) (store_pool s b.control b.pool kind_store_span a bytes))
    (store_outcome s b.control b.pool kind_store_span a (length bytes))
    0 []
step_of s b (read_record l a) = accesses b (read_outcome s b.control b.pool l a) 0 (read_bytes s b.control b.pool l a)
step_of s b (write_record l a fields) =
    accesses (buffers (write_control s b.control b.pool l a fields) (write_pool s b.control b.pool l a fields))
    (write_outcome s b.control b.pool l a fields)
    0 []
step_of s b (call a registers) =
    answers (buffers (call_control s b.control b.pool a registers) b.pool) (call_number s b.control b.pool a registers) []
step_of s b (return registers) =
    answers (buffers (return_control s b.control b.pool registers) b.pool) (return_number s b.control b.pool registers)
    (return_out s b.control b.pool registers)
step_of s b (resize region n) =
    answers (resize_of s b.control b.pool region n).after (check_number (resize_of s b.control b.pool region n).answer) []
step_of s b (change_list out) =
    answers b (change_list_number s b.control b.pool out) (change_list_out s b.control b.pool out)
step_of s b (page_view a q) =
    answers b (view_number (view_of s b.control b.pool a q)) (view_bytes s b.pool (view_of s b.control b.pool a q))

-- the same, with the two working buffers one by one
abbrev pub lent : List ℕ → List ℕ → List ℕ → Call → Step
lent s c p k = step_of s (buffers c p) k
