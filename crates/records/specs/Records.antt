-- Source document 002, "Compound Types": the five records as their fields in order, and back. A pointer is a plain u64: document 02,
-- "Five", "passed on unchecked". Assumes nothing.
use Rattle.std.specs.Prelude.{ℕ, suc, List, [], ◌∷◌, ◌++◌, get_or}
use Rattle.records.specs.declared.types.Buffer.{Buffer}
use Rattle.records.specs.declared.types.Event.{Event}
use Rattle.records.specs.declared.types.Location.{Location}
use Rattle.records.specs.declared.types.CallRecord.{CallRecord}
use Rattle.records.specs.declared.types.Returned.{Returned}

-- "ptr", "len"
abbrev pub buffer_fields : Buffer → List ℕ
buffer_fields b = b.pointer ∷ b.length ∷ []

-- the descriptor whose two fields stand from number k on
abbrev pub buffer_from : List ℕ → ℕ → Buffer
buffer_from vs k = record { pointer = get_or vs k 0; length = get_or vs (suc k) 0 }

-- the descriptor of two fields
abbrev pub buffer_of : List ℕ → Buffer
buffer_of vs = buffer_from vs 0

-- "kind.ptr", "kind.len", "data.ptr", "data.len"
abbrev pub event_fields : Event → List ℕ
event_fields e = buffer_fields e.kind ++ buffer_fields e.«data»

-- and back
abbrev pub event_of : List ℕ → Event
event_of vs = record { kind = buffer_from vs 0; «data» = buffer_from vs 2 }

-- "file.ptr", "file.len", "line", "column"
abbrev pub location_fields : Location → List ℕ
location_fields l = buffer_fields l.file ++ (l.line ∷ l.column ∷ [])

-- and back
abbrev pub location_of : List ℕ → Location
location_of vs = record { file = buffer_from vs 0; line = get_or vs 2 0; column = get_or vs 3 0 }

-- "context_id.ptr", "context_id.len", "function.ptr", "function.len", "params.ptr", "params.len"
abbrev pub call_record_fields : CallRecord → List ℕ
call_record_fields r = buffer_fields r.context_id ++ (buffer_fields r.function ++ buffer_fields r.params)

-- and back
abbrev pub call_record_of : List ℕ → CallRecord
call_record_of vs = record { context_id = buffer_from vs 0; function = buffer_from vs 2; params = buffer_from vs 4 }

-- "discriminant", "buffer.ptr", "buffer.len"
abbrev pub returned_fields : Returned → List ℕ
returned_fields r = r.discriminant ∷ buffer_fields r.buffer

-- and back
abbrev pub returned_of : List ℕ → Returned
returned_of vs = record { discriminant = get_or vs 0 0; buffer = buffer_from vs 1 }
