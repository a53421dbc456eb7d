-- A record's read is its span load and its write its span store, refused ones where the number is 14; so what holds of those holds of these.
-- Assumes nothing.
use Prim.Native.Nat.{ℕ}
use mathlib.Core.Path.{◌≡◌, refl}
use mathlib.Core.Bool.{false}
use mathlib.Core.List.{List}
use borrow.Author.Tests.{eqb-true}
use Rattle.control.specs.Buffers.{Buffers}
use Rattle.records.specs.Layout.{Layout, valid_fields}
use Rattle.access.specs.Loads.{load_span_outcome}
use Rattle.records.specs.Calls.{blank, judged, read_valid, read_outcome, read_bytes, write_outcome, write_control, write_pool}
use Rattle.records.proofs.Judged.{judged-done, judged_refused, judged_bad}
use Rattle.hekthumar.specs.Steps.{load_span, read_record, step_of}
use Rattle.history.specs.Calls.{accepted, effect}
use Rattle.history.specs.Refusals.{given}
use Rattle.history.specs.Records.{ReadsAreSpans, WritesAreSpans}
use Rattle.history.proofs.Refused.{refused_keeps}

-- where its span load is refused, a read answers as that
read_refused : (s : List ℕ) (b : Buffers) (l : Layout) (a : ℕ) → accepted s b (load_span a (blank l)) ≡ false
    → (step_of s b (read_record l a)).answer ≡ (step_of s b (load_span a (blank l))).answer
unfolding step_of read_outcome given
read_refused s b l a e =
    let same = judged_refused (read_valid s b.control b.pool l a) (load_span_outcome s b.control b.pool a (blank l)) e in
    let blank-read = (refused_keeps s b (read_record l a) (rw same e)).bytes in
    rw (same, blank-read, (refused_keeps s b (load_span a (blank l)) e).bytes)

-- a read
pub reads_are_spans : ReadsAreSpans
unfolding ReadsAreSpans step_of effect read_outcome read_bytes judged
reads_are_spans s b l a =
    record {
      step = λ e. rw (judged-done (read_valid s b.control b.pool l a) _ (eqb-true _ _ e)).0;
      meaning = refl;
      refused = λ e. read_refused s b l a e;
      bad = λ e h. judged_bad (read_valid s b.control b.pool l a) _ e h;
    }

-- a write
pub writes_are_spans : WritesAreSpans
unfolding WritesAreSpans step_of effect write_outcome write_control write_pool judged
writes_are_spans s b l a fields =
    record {
      step = λ e. rw (judged-done (valid_fields l fields) _ (eqb-true _ _ e)).0;
      meaning = refl;
      refused = λ e. rw (judged_refused (valid_fields l fields) _ e);
      bad = λ e h. judged_bad (valid_fields l fields) _ e h;
    }
