-- The answers of the C interface: for each case of an answer its number and its values. A field that the case does not name is 0.
-- Assumes nothing.
use Rattle.std.specs.Prelude.{ℕ, List, [], nat_eq, Result, Err, Ok}
use Rattle.words.specs.Words.{bytes_at}
use Rattle.choice.specs.Choice.{pick}
use Rattle.refusal.specs.Numbers.{number_of, distance_of, done}
use Rattle.refusal.specs.Checks.{Check}
use Rattle.refusal.specs.declared.Refusal.{Refusal}
use Rattle.address.specs.declared.Address.{Address}
use Rattle.address.specs.declared.Fields.{Fields}
use Rattle.translate.specs.Place.{Translation, number_of_answer, distance_of_answer}
use Rattle.translate.specs.declared.place.Place.{Place}
use Rattle.translate.specs.declared.place.Place.TheVariants.{InSnapshot, InControl, Zeros, InPool, Take}
use Rattle.access.specs.Loads.{value_in}
use Rattle.records.specs.Layout.{decoded, buffer_layout, event_layout, location_layout, call_record_layout, returned_layout}
use Rattle.records.specs.Records.{buffer_of, event_of, location_of, call_record_of, returned_of}
use Rattle.hekthumar.specs.declared.record_reads.BufferRead.{BufferRead}
use Rattle.hekthumar.specs.declared.record_reads.EventRead.{EventRead}
use Rattle.hekthumar.specs.declared.record_reads.LocationRead.{LocationRead}
use Rattle.hekthumar.specs.declared.record_reads.CallRecordRead.{CallRecordRead}
use Rattle.hekthumar.specs.declared.record_reads.ReturnedRead.{ReturnedRead}
use Rattle.view.specs.declared.View.{View}
use Rattle.view.specs.declared.View.TheVariants as view
use Rattle.hekthumar.specs.Steps.{Step}
use Rattle.hekthumar.specs.declared.addresses.AddressAnswer.{AddressAnswer}
use Rattle.hekthumar.specs.declared.addresses.FieldsAnswer.{FieldsAnswer}
use Rattle.hekthumar.specs.declared.accesses.PlaceAnswer.{PlaceAnswer}
use Rattle.hekthumar.specs.declared.values.ValueAnswer.{ValueAnswer}
use Rattle.hekthumar.specs.declared.outcomes.OutcomeAnswer.{OutcomeAnswer}
use Rattle.hekthumar.specs.declared.changes_of.ViewAnswer.{ViewAnswer}

-- an address and its number: "and gives 0" where it is refused
abbrev pub address_answer : Result Address Refusal → AddressAnswer
address_answer (Ok a) = record { address = a.0; number = done }
address_answer (Err r) = record { address = 0; number = number_of r }

-- an address's fields and its number: zero fields where it is refused
abbrev pub fields_answer : Result Fields Refusal → FieldsAnswer
fields_answer (Ok f) = record { offset = f.offset; index = f.index; segment = f.segment_type; number = done }
fields_answer (Err r) = record { offset = 0; index = 0; segment = 0; number = number_of r }

-- a value, with the distance and the number of its access: 0 where it is refused
abbrev pub value_answer : Result ℕ Refusal → ValueAnswer
value_answer v = record { value = value_in v; distance = distance_of_answer v; number = number_of_answer v }

-- the same of a step
abbrev pub step_value : Step → ValueAnswer
step_value x = record { value = x.answer.value; distance = x.answer.distance; number = x.answer.number }

-- the distance and the number of an access without a value
abbrev pub outcome_answer : Check → OutcomeAnswer
outcome_answer o = record { distance = distance_of_answer o; number = number_of_answer o }

-- the same of a step
abbrev pub step_outcome : Step → OutcomeAnswer
step_outcome x = record { distance = x.answer.distance; number = x.answer.number }

-- a place: 1 in the snapshot, 2 in the control block, 3 zeros, 4 in the pool, 5 a frame that would be taken for a copy
abbrev pub place_of : Place → PlaceAnswer
place_of (InSnapshot at) = record { at = at; frame = 0; account = 0; page = 0; place = 1; number = done }
place_of (InControl at) = record { at = at; frame = 0; account = 0; page = 0; place = 2; number = done }
place_of Zeros = record { at = 0; frame = 0; account = 0; page = 0; place = 3; number = done }
place_of (InPool at) = record { at = at; frame = 0; account = 0; page = 0; place = 4; number = done }
place_of (Take n) = record { at = n.at; frame = n.frame.0; account = n.account.0; page = n.page.0; place = 5; number = done }

-- translation's answer: where it is refused, the refusal's distance and no place
abbrev pub place_answer : Translation → PlaceAnswer
place_answer (Ok q) = place_of q
place_answer (Err r) = record { at = distance_of r; frame = 0; account = 0; page = 0; place = 0; number = number_of r }

-- the distance that translation's answer gives, where it has no place
abbrev pub distance_in : PlaceAnswer → ℕ
distance_in x = pick (nat_eq x.place 0) x.at 0

-- a view: 1 in the snapshot, 2 in the pool, 0 where it is refused
abbrev pub view_answer : Result View Refusal → ViewAnswer
view_answer (Ok (view.InSnapshot at n)) = record { start = at; length = n; holder = 1; number = done }
view_answer (Ok (view.InPool at n)) = record { start = at; length = n; holder = 2; number = done }
view_answer (Err r) = record { start = 0; length = 0; holder = 0; number = number_of r }

-- the bytes of the part that a view's answer names
abbrev pub viewed : List ℕ → List ℕ → ViewAnswer → List ℕ
viewed s p v = pick (nat_eq v.holder 1) (bytes_at v.length s v.start) (pick (nat_eq v.holder 2) (bytes_at v.length p v.start) [])

-- ---- a record, with the distance and the number of its access: the one that the step's bytes spell

-- of a buffer descriptor
abbrev pub step_buffer : Step → BufferRead
step_buffer x =
    record { «record» = buffer_of (decoded buffer_layout.widths x.answer.bytes 0); distance = x.answer.distance; number = x.answer.number }

-- of an event
abbrev pub step_event : Step → EventRead
step_event x =
    record { «record» = event_of (decoded event_layout.widths x.answer.bytes 0); distance = x.answer.distance; number = x.answer.number }

-- of a location
abbrev pub step_location : Step → LocationRead
step_location x =
    record { «record» = location_of (decoded location_layout.widths x.answer.bytes 0); distance = x.answer.distance; number = x.answer.number }

-- of a call record
abbrev pub step_call_record : Step → CallRecordRead
step_call_record x =
    record { «record» = call_record_of (decoded call_record_layout.widths x.answer.bytes 0); distance = x.answer.distance; number = x.answer.number }

-- of a returned value
abbrev pub step_returned : Step → ReturnedRead
step_returned x =
    record { «record» = returned_of (decoded returned_layout.widths x.answer.bytes 0); distance = x.answer.distance; number = x.answer.number }
