-- Document 01, "Three lent buffers": the two that are written. Assumes nothing.
use Rattle.std.specs.Prelude.{ℕ, List}

-- the two working buffers: the ledger, here the control block, and the pool
pub record Buffers : Type 0 where
  pub control : List ℕ
  pub pool : List ℕ
