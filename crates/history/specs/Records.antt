-- Document 02, "Five": "In demand 3's history each is that one span load or store, a refused one where the number is 14", as a statement.
-- Assumes nothing.
use Rattle.std.specs.Prelude.{ℕ, ◌≡◌, true, false, List}
use Rattle.refusal.specs.Numbers.{number_of}
use Rattle.refusal.specs.declared.Refusal.TheVariants.{BadRecord}
use Rattle.control.specs.Buffers.{Buffers}
use Rattle.records.specs.Layout.{Layout, encoded}
use Rattle.records.specs.Calls.{blank}
use Rattle.hekthumar.specs.Steps.{Call, load_span, store_span, read_record, write_record, step_of}
use Rattle.history.specs.Calls.{accepted, effect}

-- a call of a record, and its span's
pub record AsSpan (s : List ℕ) (b : Buffers) (k span : Call) : Type 0 where
  -- accepted, it gives and leaves what the span's does
  pub step : accepted s b k ≡ true → step_of s b k ≡ step_of s b span
  -- and means to the replay what that means
  pub meaning : effect k ≡ effect span
  -- "14 comes after every refusal of the access": where the span's is refused, it answers as that
  pub refused : accepted s b span ≡ false → (step_of s b k).answer ≡ (step_of s b span).answer
  -- and where it alone is refused, the number is 14
  pub bad : accepted s b span ≡ true → accepted s b k ≡ false → (step_of s b k).answer.number ≡ number_of BadRecord

-- every read of a record is the span load of its bytes
unfoldable pub ReadsAreSpans : Type 0
ReadsAreSpans = (s : List ℕ) (b : Buffers) (l : Layout) (a : ℕ) → AsSpan s b (read_record l a) (load_span a (blank l))

-- and every write the span store of its bytes
unfoldable pub WritesAreSpans : Type 0
WritesAreSpans =
    (s : List ℕ) (b : Buffers) (l : Layout) (a : ℕ) (fields : List ℕ)
    → AsSpan s b (write_record l a fields) (store_span a (encoded l.widths fields))
