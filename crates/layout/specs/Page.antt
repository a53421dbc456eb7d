-- Document 01, "Three lent buffers": pages and frames. Assumes nothing.
use Rattle.std.specs.Prelude.{ℕ, ◌*◌, ◌/◌}
use Rattle.layout.specs.Address.{offsets}

-- "frames of 4,096 bytes"; a page is as long, and so is the longest span
abbrev pub page_size : ℕ
page_size = 4096

-- "at most 4,096 pages of each region": those of a segment
abbrev pub page_limit : ℕ
page_limit = offsets / page_size

-- "Pool, written: F frames of 4,096 bytes."
abbrev pub pool_length : ℕ → ℕ
pool_length f = page_size * f
