-- A record that was written is read back: by the law of spans and the law of encoding, once over the layout, and so for each of the five.
-- Assumes nothing.
use Rattle.std.proofs.Common.{ℕ, ◌≡◌, refl, ap, sym, ◌∙◌, true, List, length}
use Rattle.words.proofs.Run.{length-zeros}
use Rattle.refusal.specs.Numbers.{done}
use Rattle.records.specs.Layout.{Layout, record_length, encoded, Ranged, valid_fields, buffer_layout, event_layout, location_layout, call_record_layout, returned_layout}
use Rattle.records.specs.Records.{buffer_fields, buffer_of, event_fields, event_of, location_fields, location_of, call_record_fields, call_record_of, returned_fields, returned_of}
use Rattle.records.specs.Calls.{judged, blank, read_outcome, read_bytes, read_fields, write_outcome, write_control, write_pool}
use Rattle.records.specs.Back.{ReadsBack, SpanBack}
use Rattle.records.specs.RoundTrip.{RoundTrip}
use Rattle.records.proofs.Encoding.{length-encoded, decoded-encoded}
use Rattle.records.proofs.Judged.{judged-done}
use Rattle.records.proofs.Back.{span_back}

-- where the span load gives a valid record's bytes, the read gives the record
read_written : (s c p : List ℕ) (l : Layout) (a : ℕ) (vs : List ℕ) → Ranged l.widths vs → valid_fields l vs ≡ true
    → ReadsBack s c p a (blank l) (encoded l.widths vs)
    → (read_outcome s c p l a ≡ record { number = done; distance = 0 }) × (read_fields s c p l a ≡ vs)
unfolding read_outcome read_bytes judged
read_written s c p l a vs ranged valid b =
    let spelt = decoded-encoded l.widths vs ranged in
    rw (b.bytes, spelt, valid) (b.outcome, spelt)

-- of any layout
pub round_trip_lem : {A : Type 0} (l : Layout) (fields : A → List ℕ) (from : List ℕ → A) → ((x : A) → from (fields x) ≡ x) → RoundTrip l fields from
unfolding RoundTrip SpanBack write_outcome write_control write_pool
round_trip_lem l fields from back s c p a x ranged e =
    let bytes : List ℕ = encoded l.widths (fields x) in
    let accepted = judged-done (valid_fields l (fields x)) _ e in
    let size : length (blank l) ≡ length bytes = length-zeros (record_length l.widths) ∙ sym (length-encoded l.widths (fields x)) in
    let given = read_written s _ _ l a (fields x) ranged accepted.0 (span_back s c p a bytes (blank l) size accepted.1) in
    rw accepted.0 (record { outcome = given.0; read = ap from given.1 ∙ back x })

-- of each of the five
pub buffer_back : RoundTrip buffer_layout buffer_fields buffer_of
buffer_back = round_trip_lem buffer_layout buffer_fields buffer_of (λ x. refl)

pub event_back : RoundTrip event_layout event_fields event_of
event_back = round_trip_lem event_layout event_fields event_of (λ x. refl)

pub location_back : RoundTrip location_layout location_fields location_of
location_back = round_trip_lem location_layout location_fields location_of (λ x. refl)

pub call_record_back : RoundTrip call_record_layout call_record_fields call_record_of
call_record_back = round_trip_lem call_record_layout call_record_fields call_record_of (λ x. refl)

pub returned_back : RoundTrip returned_layout returned_fields returned_of
returned_back = round_trip_lem returned_layout returned_fields returned_of (λ x. refl)
