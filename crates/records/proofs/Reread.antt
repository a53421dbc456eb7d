-- Translation of a span load at once after an accepted span store, at the same address and as long: the tests pass again, and the answer is the
-- place where the store's bytes went. Assumes nothing.
use Rattle.std.proofs.Common.{ℕ, ◌≡◌, refl, ap, ◌∙◌, true, List, arith, length}
use Rattle.address.specs.Address.{offset_of}
use Rattle.snapshot.specs.Accounts.{entry_of, entry_valid, data_length}
use Rattle.control.specs.Control.{current, control_valid}
use Rattle.control.specs.declared.shadow.Invocation.{Invocation}
use Rattle.control.proofs.Facts.{control_facts, buffers_facts}
use Rattle.control.proofs.Kept.{buffers_kept}
use Rattle.frames.proofs.OnlyTable.{OnlyTable, table_same, table_put, table_edition, table_current}
use Rattle.segments.specs.Kinds.{kind_load_span, kind_store_span, request_valid}
use Rattle.segments.specs.declared.rules.Presence.{Presence}
use Rattle.segments.specs.declared.rules.Presence.TheVariants.{Transaction, Shadow, Program, Context, Metadata, Data, Stack, Heap}
use Rattle.segments.proofs.Requests.{span_aligned}
use Rattle.segments.proofs.Table.{permitted_load}
use Rattle.translate.specs.Translate.{concerned_valid, end_of, source_of, place_of, translate_of}
use Rattle.translate.specs.declared.place.Place.{Place}
use Rattle.translate.specs.declared.place.Place.TheVariants.{InSnapshot, InControl, Zeros, InPool, Take}
use Rattle.translate.specs.declared.request.Request.{Request}
use Rattle.translate.proofs.Accepted.{request_of, accepted, accepted_answer}
use Rattle.access.specs.Stores.{Writable, place_in_pool, copy_entry, prepared_control}
use Rattle.access.proofs.Answers.{place_writable}
use Rattle.records.proofs.Place.{place_again}
use Rattle.std.specs.Prelude.{Ok}

-- ---- the columns of a row

-- a row asks the same of two requests, under two control blocks, and looks in the same place
record SameColumns (s c c' : List ℕ) (r : Presence) (q q' : Request) : Type 0 where
  entry : concerned_valid s c' r q' ≡ concerned_valid s c r q
  end : end_of s c' r q' ≡ end_of s c r q
  source : source_of s r q' ≡ source_of s r q

-- whatever their kinds, where the current invocation is the same
same_columns : (s c c' : List ℕ) (kind kind' a n : ℕ) → current c' ≡ current c
    → (r : Presence) → SameColumns s c c' r (request_of kind a n) (request_of kind' a n)
unfolding concerned_valid end_of source_of
same_columns s c c' kind kind' a n h Transaction = record { entry = refl; end = refl; source = refl }
same_columns s c c' kind kind' a n h Shadow = record { entry = refl; end = refl; source = refl }
same_columns s c c' kind kind' a n h Program =
    record {
      entry = ap (λ (i : Invocation). entry_valid s i.program) h;
      end = ap (λ (i : Invocation). data_length (entry_of s i.program)) h;
      source = refl;
    }
same_columns s c c' kind kind' a n h Context = record { entry = refl; end = refl; source = refl }
same_columns s c c' kind kind' a n h Metadata = record { entry = refl; end = refl; source = refl }
same_columns s c c' kind kind' a n h Data = record { entry = refl; end = refl; source = refl }
same_columns s c c' kind kind' a n h Stack = record { entry = refl; end = rw h; source = refl }
same_columns s c c' kind kind' a n h Heap = record { entry = refl; end = rw h; source = refl }

-- ---- the answer

-- a span load may be as long as a span store
load_request : (n : ℕ) → request_valid kind_store_span n ≡ true → request_valid kind_load_span n ≡ true
unfolding request_valid
load_request n h = h

-- a store changes nothing of the control block but its frame table
only_prepared : (s c p : List ℕ) (q : Place) → Writable s c p q → OnlyTable c (prepared_control c q)
only_prepared s c p (InSnapshot _) w = elim w [ ]
only_prepared s c p (InControl _) w = elim w [ ]
only_prepared s c p Zeros w = elim w [ ]
only_prepared s c p (InPool at) w = table_same c
only_prepared s c p (Take t) w = table_put c t.frame.0 (copy_entry c t)

-- the span load is allowed, at the place where the bytes went, with any pool as long
pub reread : (s c p p' : List ℕ) (a n : ℕ) {q : Place} → translate_of s c p kind_store_span a n ≡ Ok q → length p' ≡ length p
    → translate_of s (prepared_control c q) p' kind_load_span a n ≡ Ok (InPool (place_in_pool q))
unfolding place_of
reread s c p p' a n {q} e size =
    let x = accepted s c p kind_store_span a n e refl in
    let w : Writable s c p q = place_writable s c p kind_store_span a n refl e refl in
    let o : OnlyTable c (prepared_control c q) = only_prepared s c p q w in
    let v : control_valid c ≡ true = (buffers_facts s c p x.buffers).control in
    let y = same_columns s c (prepared_control c q) kind_store_span kind_load_span a n (table_current o (control_facts c v).few_live) x.row.presence in
    accepted_answer
    (record {
      buffers = buffers_kept o s p p' (omega arith) size x.buffers;
      request = load_request n x.request;
      address = x.address;
      row = x.row;
      found = x.found;
      has = rw (table_edition o) x.has;
      passed =
          record {
            entry = y.entry ∙ x.passed.entry;
            aligned = span_aligned kind_load_span (offset_of a) n (omega arith);
            permitted = permitted_load kind_load_span _ _ _ _ (λ k. omega arith) refl;
            within = x.passed.within;
            present = rw y.end x.passed.present;
          };
      place = rw y.source (place_again s c p a n _ _ v w _ x.place);
    })
