-- Document 02, "Five": "Read .. by one span load each, and write each back by one span store." Assumes nothing.
use Rattle.std.specs.Prelude.{ℕ, Bool, List, nat_eq, length}
use Rattle.words.specs.Words.{zeros}
use Rattle.choice.specs.Choice.{pick}
use Rattle.refusal.specs.Numbers.{number_of, distance_of, done}
use Rattle.refusal.specs.declared.Refusal.{Refusal}
use Rattle.refusal.specs.declared.Refusal.TheVariants.{BadRecord}
use Rattle.segments.specs.Kinds.{kind_store_span}
use Rattle.translate.specs.Place.{Outcome}
use Rattle.access.specs.Loads.{load_span_outcome, load_span_out}
use Rattle.access.specs.Stores.{store_outcome, store_control, store_pool}
use Rattle.records.specs.Layout.{Layout, record_length, encoded, decoded, valid_fields}

-- the number and the distance of a refusal
abbrev pub refused_outcome : Refusal → Outcome
refused_outcome r = record { number = number_of r; distance = distance_of r }

-- "14 comes after every refusal of the access": the access's own answer, unless that is accepted and the record is not valid
unfoldable pub judged : Bool → Outcome → Outcome
judged valid o =
    pick valid o (pick (nat_eq o.number done) (record { number = number_of BadRecord; distance = distance_of BadRecord }) o)

-- as many zeros as the record has bytes: what its span load fills, and what "a refused read gives"
abbrev pub blank : Layout → List ℕ
blank l = zeros (record_length l.widths)

-- the bytes that the span load gives
abbrev pub span_read : List ℕ → List ℕ → List ℕ → Layout → ℕ → List ℕ
span_read s c p l a = load_span_out s c p a (blank l)

-- whether they are a record; those of a refused span load are zeros, and so they are
abbrev pub read_valid : List ℕ → List ℕ → List ℕ → Layout → ℕ → Bool
read_valid s c p l a = valid_fields l (decoded l.widths (span_read s c p l a) 0)

-- what a read answers
unfoldable pub read_outcome : List ℕ → List ℕ → List ℕ → Layout → ℕ → Outcome
read_outcome s c p l a = judged (read_valid s c p l a) (load_span_outcome s c p a (blank l))

-- the bytes of the record that it gives
unfoldable pub read_bytes : List ℕ → List ℕ → List ℕ → Layout → ℕ → List ℕ
read_bytes s c p l a = pick (read_valid s c p l a) (span_read s c p l a) (blank l)

-- the fields of the record that it gives
abbrev pub read_fields : List ℕ → List ℕ → List ℕ → Layout → ℕ → List ℕ
read_fields s c p l a = decoded l.widths (read_bytes s c p l a) 0

-- what a write answers
unfoldable pub write_outcome : List ℕ → List ℕ → List ℕ → Layout → ℕ → List ℕ → Outcome
write_outcome s c p l a vs = judged (valid_fields l vs) (store_outcome s c p kind_store_span a (length (encoded l.widths vs)))

-- the control block after it: "any other refused with 14", and a refusal changes nothing
unfoldable pub write_control : List ℕ → List ℕ → List ℕ → Layout → ℕ → List ℕ → List ℕ
write_control s c p l a vs = pick (valid_fields l vs) (store_control s c p kind_store_span a (length (encoded l.widths vs))) c

-- the pool after it
unfoldable pub write_pool : List ℕ → List ℕ → List ℕ → Layout → ℕ → List ℕ → List ℕ
write_pool s c p l a vs = pick (valid_fields l vs) (store_pool s c p kind_store_span a (encoded l.widths vs)) p
