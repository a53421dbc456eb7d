-- Document 01, "Three lent buffers", with document 02, "Six": the offsets, lengths and limits of the ledger, here the control block. Assumes
-- nothing.
use Rattle.std.specs.Prelude.{ℕ, ◌+◌, ◌*◌}

-- "Header of four u32", which "gains at its end a u32 edition": where that stands
abbrev pub edition_at : ℕ
edition_at = 16

-- "and a zero u32"
abbrev pub reserved_at : ℕ
reserved_at = 20

-- "1 older", the edition of source document 001
abbrev pub older : ℕ
older = 1

-- "2 newer", that of source document 000
abbrev pub newer : ℕ
newer = 2

-- "Shadow frames start at 24"
abbrev pub shadow_at : ℕ
shadow_at = 24

-- "u16 program account, u16 stack pages": where the stack's size stands in a shadow record
abbrev pub stack_at : ℕ
stack_at = 2

-- "u16 heap pages": where the heap's size stands
abbrev pub heap_at : ℕ
heap_at = 4

-- "2 zero bytes, 32 registers of 8 bytes": where the registers start
abbrev pub registers_at : ℕ
registers_at = 8

-- "32 registers of 8 bytes"
abbrev pub registers_size : ℕ
registers_size = 256

-- "shadow frames of 264 bytes": the length of a shadow record
abbrev pub shadow_size : ℕ
shadow_size = registers_at + registers_size

-- "live invocations D (1..16)"
abbrev pub live_limit : ℕ
live_limit = 16

-- "the table at 4,512": after "17 shadow frames"
abbrev pub table_at : ℕ
table_at = shadow_at + (live_limit + 1) * shadow_size

-- "F entries of 8 bytes"
abbrev pub frame_entry_size : ℕ
frame_entry_size = 8

-- "frame count F (0..1,024)"
abbrev pub frame_limit : ℕ
frame_limit = 1024

-- "the length is 4,512+8F"
abbrev pub control_length : ℕ → ℕ
control_length f = table_at + frame_entry_size * f

-- "a use byte (0 free"
abbrev pub usage_free : ℕ
usage_free = 0

-- "1 account copy"
abbrev pub usage_copy : ℕ
usage_copy = 1

-- "2 stack"
abbrev pub usage_stack : ℕ
usage_stack = 2

-- "3 heap)"
abbrev pub usage_heap : ℕ
usage_heap = 3
