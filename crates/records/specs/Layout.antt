-- Source document 002, "Buffer Descriptor Structure" and "Compound Types": a record is its fields one after another, without a gap.
-- Assumes nothing.
use Rattle.std.specs.Prelude.{ℕ, ◌+◌, ◌<◌, ◌^◌, Bool, true, false, List, [], ◌∷◌, ◌++◌, nat_lt, get_or}
use Rattle.words.specs.Words.{word_at, word_bytes}
use Rattle.choice.specs.Choice.{pick}

-- the fields' widths in bytes, and whether the first of them is a discriminant
pub record Layout : Type 0 where
  pub widths : List ℕ
  pub discriminated : Bool

-- how many bytes fields of these widths take
unfoldable pub record_length : List ℕ → ℕ
record_length [] = 0
record_length (w ∷ ws) = w + record_length ws

-- the bytes of a record with these fields; a field that is not given is 0
unfoldable pub encoded : List ℕ → List ℕ → List ℕ
encoded [] vs = []
encoded (w ∷ ws) [] = word_bytes w 0 ++ encoded ws []
encoded (w ∷ ws) (v ∷ vs) = word_bytes w v ++ encoded ws vs

-- the fields of the record at a place in bytes
unfoldable pub decoded : List ℕ → List ℕ → ℕ → List ℕ
decoded [] bytes at = []
decoded (w ∷ ws) bytes at = word_at w bytes at ∷ decoded ws bytes (at + w)

-- each field fits its width: what the type of a field in C says
unfoldable pub Ranged : List ℕ → List ℕ → Type 0
Ranged [] [] = Unit {0}
Ranged [] (v ∷ vs) = ⊥
Ranged (w ∷ ws) [] = ⊥
Ranged (w ∷ ws) (v ∷ vs) = (v < 256 ^ w) × Ranged ws vs

-- "discriminant 0 or 1, any other refused"
unfoldable pub valid_fields : Layout → List ℕ → Bool
valid_fields l vs = pick l.discriminated (nat_lt (get_or vs 0 0) 2) true

-- u64 pointer, u64 length: "16 bytes (8 for pointer + 8 for length)"
abbrev pub buffer_layout : Layout
buffer_layout = record { widths = 8 ∷ 8 ∷ []; discriminated = false }

-- kind, data: "Layout in memory (32 bytes)"
abbrev pub event_layout : Layout
event_layout = record { widths = 8 ∷ 8 ∷ 8 ∷ 8 ∷ []; discriminated = false }

-- file, line (u32), column (u32): "Layout in memory (24 bytes)"
abbrev pub location_layout : Layout
location_layout = record { widths = 8 ∷ 8 ∷ 4 ∷ 4 ∷ []; discriminated = false }

-- context_id, function, params: "Layout in memory (48 bytes)"
abbrev pub call_record_layout : Layout
call_record_layout = record { widths = 8 ∷ 8 ∷ 8 ∷ 8 ∷ 8 ∷ 8 ∷ []; discriminated = false }

-- "discriminant (u64) - 0 for Ok, 1 for Err", buffer: "Layout in memory (24 bytes)"
abbrev pub returned_layout : Layout
returned_layout = record { widths = 8 ∷ 8 ∷ 8 ∷ []; discriminated = true }
