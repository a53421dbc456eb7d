-- Document 01, "Three lent buffers": the lengths and limits of the ground, here the snapshot. Assumes nothing.
use Rattle.std.specs.Prelude.{ℕ, ◌+◌, ◌^◌}
use Rattle.layout.specs.Address.{offsets}

-- "Header of eight u32": its length
abbrev pub header_size : ℕ
header_size = 32

-- where the metadata starts in an entry: after u16, u16, u32, u32, u32
abbrev pub metadata_offset : ℕ
metadata_offset = 16

-- "64 bytes of metadata"
abbrev pub metadata_size : ℕ
metadata_size = 64

-- "An account entry has 80 bytes"
abbrev pub entry_size : ℕ
entry_size = metadata_offset + metadata_size

-- "remainder below 120": the length of a block context
abbrev pub context_size : ℕ
context_size = 120

-- "account count A (0..64)"
abbrev pub account_limit : ℕ
account_limit = 64

-- "block contexts B (0..512)"
abbrev pub context_limit : ℕ
context_limit = 512

-- "transaction length T (0..65,536)"
abbrev pub transaction_limit : ℕ
transaction_limit = 65536

-- "u32 data length (at most 2^24)": a segment's
abbrev pub data_limit : ℕ
data_limit = offsets

-- "the total length, which .. is at most 2^31"
abbrev pub snapshot_limit : ℕ
snapshot_limit = 2 ^ 31
