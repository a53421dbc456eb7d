-- What a read gives: the record that its fields are, and what every access answers. Assumes nothing.
use Rattle.std.specs.Prelude.{ℕ, List}
use Rattle.records.specs.Layout.{Layout, buffer_layout, event_layout, location_layout, call_record_layout, returned_layout}
use Rattle.records.specs.Records.{buffer_of, event_of, location_of, call_record_of, returned_of}
use Rattle.records.specs.Calls.{read_outcome, read_fields}
use Rattle.records.specs.declared.reads.RecordRead.{RecordRead}
use Rattle.records.specs.declared.types.Buffer.{Buffer}
use Rattle.records.specs.declared.types.Event.{Event}
use Rattle.records.specs.declared.types.Location.{Location}
use Rattle.records.specs.declared.types.CallRecord.{CallRecord}
use Rattle.records.specs.declared.types.Returned.{Returned}

-- of any layout, by the record that fields make
abbrev pub record_read : {R : Type 0} → Layout → (List ℕ → R) → List ℕ → List ℕ → List ℕ → ℕ → RecordRead R
record_read l from s c p a =
    record {
      «record» = from (read_fields s c p l a);
      distance = (read_outcome s c p l a).distance;
      number = (read_outcome s c p l a).number;
    }

-- of a buffer descriptor
abbrev pub buffer_read : List ℕ → List ℕ → List ℕ → ℕ → RecordRead Buffer
buffer_read = record_read buffer_layout buffer_of

-- of an event
abbrev pub event_read : List ℕ → List ℕ → List ℕ → ℕ → RecordRead Event
event_read = record_read event_layout event_of

-- of a location
abbrev pub location_read : List ℕ → List ℕ → List ℕ → ℕ → RecordRead Location
location_read = record_read location_layout location_of

-- of a call record
abbrev pub call_record_read : List ℕ → List ℕ → List ℕ → ℕ → RecordRead CallRecord
call_record_read = record_read call_record_layout call_record_of

-- of a returned value
abbrev pub returned_read : List ℕ → List ℕ → List ℕ → ℕ → RecordRead Returned
returned_read = record_read returned_layout returned_of
