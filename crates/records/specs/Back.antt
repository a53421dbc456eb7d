-- What a span store was given is read back, as a statement. Assumes nothing.
use Rattle.std.specs.Prelude.{ℕ, ◌≡◌, List, length}
use Rattle.refusal.specs.Numbers.{done}
use Rattle.segments.specs.Kinds.{kind_store_span}
use Rattle.access.specs.Loads.{load_span_outcome, load_span_out}
use Rattle.access.specs.Stores.{store_outcome, store_control, store_pool}

-- a span load into `out` is accepted, and gives these bytes
pub record ReadsBack (s c p : List ℕ) (a : ℕ) (out given : List ℕ) : Type 0 where
  pub outcome : load_span_outcome s c p a out ≡ record { number = done; distance = 0 }
  pub bytes : load_span_out s c p a out ≡ given

-- what a span store was given is read back: a span load of as many bytes at the same address, at once, under the buffers that an accepted
-- span store left, is accepted and gives its bytes. For every snapshot, control block and pool of any bytes
unfoldable pub SpanBack : Type 0
SpanBack =
    (s c p : List ℕ) (a : ℕ) (bytes out : List ℕ) → length out ≡ length bytes
    → (store_outcome s c p kind_store_span a (length bytes)).number ≡ done
    → ReadsBack s (store_control s c p kind_store_span a (length bytes)) (store_pool s c p kind_store_span a bytes) a out bytes
