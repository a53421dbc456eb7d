-- Document 02, "Five": "An accepted write, then at once a read at the same address, gives the record back." Assumes nothing.
use Rattle.std.specs.Prelude.{ℕ, ◌≡◌, List}
use Rattle.refusal.specs.Numbers.{done}
use Rattle.records.specs.Layout.{Layout, Ranged}
use Rattle.records.specs.Calls.{read_outcome, read_fields, write_outcome, write_control, write_pool}

-- a read that is accepted, and gives this record
pub record Gives {A : Type 0} (from : List ℕ → A) (s c p : List ℕ) (l : Layout) (a : ℕ) (x : A) : Type 0 where
  pub outcome : read_outcome s c p l a ≡ record { number = done; distance = 0 }
  pub read : from (read_fields s c p l a) ≡ x

-- of a layout, and a type of records with their fields in it: for all buffers, every address and every record whose fields fit their widths, under
-- the buffers that the write left
unfoldable pub RoundTrip : {A : Type 0} → Layout → (A → List ℕ) → (List ℕ → A) → Type 0
RoundTrip {A} l fields from =
    (s c p : List ℕ) (a : ℕ) (x : A) → Ranged l.widths (fields x) → (write_outcome s c p l a (fields x)).number ≡ done
    → Gives from s (write_control s c p l a (fields x)) (write_pool s c p l a (fields x)) l a x
