-- How many bytes each of the five records takes, and that a record of fields has those fields. Assumes nothing.
use Rattle.std.specs.Prelude.{ℕ, ◌≡◌, refl, List}
use Rattle.records.specs.Layout.{Layout, record_length, decoded, buffer_layout, event_layout, location_layout, call_record_layout, returned_layout}
use Rattle.records.specs.Records.{buffer_fields, buffer_of, event_fields, event_of, location_fields, location_of, call_record_fields, call_record_of, returned_fields, returned_of}

-- the record of the fields at a place in bytes has them
abbrev pub Kept : {R : Type 0} → Layout → (R → List ℕ) → (List ℕ → R) → Type 0
Kept l fields from = (bytes : List ℕ) (at : ℕ) → fields (from (decoded l.widths bytes at)) ≡ decoded l.widths bytes at

-- "16 bytes"
pub buffer_size : record_length buffer_layout.widths ≡ 16
unfolding record_length
buffer_size = refl

pub buffer_kept : Kept buffer_layout buffer_fields buffer_of
unfolding decoded
buffer_kept bytes at = refl

-- "32 bytes"
pub event_size : record_length event_layout.widths ≡ 32
unfolding record_length
event_size = refl

pub event_kept : Kept event_layout event_fields event_of
unfolding decoded
event_kept bytes at = refl

-- "24 bytes"
pub location_size : record_length location_layout.widths ≡ 24
unfolding record_length
location_size = refl

pub location_kept : Kept location_layout location_fields location_of
unfolding decoded
location_kept bytes at = refl

-- "48 bytes"
pub call_record_size : record_length call_record_layout.widths ≡ 48
unfolding record_length
call_record_size = refl

pub call_record_kept : Kept call_record_layout call_record_fields call_record_of
unfolding decoded
call_record_kept bytes at = refl

-- "24 bytes"
pub returned_size : record_length returned_layout.widths ≡ 24
unfolding record_length
returned_size = refl

pub returned_kept : Kept returned_layout returned_fields returned_of
unfolding decoded
returned_kept bytes at = refl
