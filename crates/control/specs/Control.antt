-- Document 01, "Three lent buffers", with document 02, "Six": the ledger, here the control block c, but for its frame table. Assumes nothing.
use Rattle.std.specs.Prelude.{ℕ, ◌+◌, ◌-◌, ◌*◌, Bool, List, ◌++◌, length, nat_lt, nat_le, nat_eq}
use Rattle.layout.specs.Page.{page_limit, pool_length}
use Rattle.layout.specs.Control.{edition_at, reserved_at, older, newer, shadow_at, shadow_size, table_at, stack_at, heap_at, registers_at, registers_size, live_limit, frame_limit, control_length}
use Rattle.words.specs.Words.{word_at, word_bytes, bytes_at, splice, zeros}
use Rattle.choice.specs.Choice.{both, either}
use Rattle.snapshot.specs.Header.{accounts, snapshot_valid}
use Rattle.control.specs.declared.shadow.Region.{Region}
use Rattle.control.specs.declared.shadow.Region.TheVariants.{Stack, Heap}
use Rattle.control.specs.declared.shadow.Invocation.{Invocation}

-- ---- header

-- "Header of four u32: frame count F"
abbrev pub frames : List ℕ → ℕ
frames c = word_at 4 c 0

-- "live invocations D"
abbrev pub invocations : List ℕ → ℕ
invocations c = word_at 4 c 4

-- "depth is D−1"
abbrev pub depth : List ℕ → ℕ
depth c = invocations c - 1

-- the control block with another D
unfoldable pub set_invocations : List ℕ → ℕ → List ℕ
set_invocations c d = splice c 4 (word_bytes 4 d)

-- "The ledger header gains at its end a u32 edition"
abbrev pub edition : List ℕ → ℕ
edition c = word_at 4 c edition_at

-- "(1 older, 2 newer)"
unfoldable pub edition_known : ℕ → Bool
edition_known e = either (nat_eq e older) (nat_eq e newer)

-- the header's ranges and offsets, and the length; the edition "and a zero u32; any other word there is unfit"
unfoldable pub control_valid : List ℕ → Bool
control_valid c =
    both (nat_le table_at (length c))
    (both (nat_le (frames c) frame_limit)
    (both (nat_le 1 (invocations c))
    (both (nat_le (invocations c) live_limit)
    (both (nat_eq (word_at 4 c 8) shadow_at)
    (both (nat_eq (word_at 4 c 12) table_at)
    (both (edition_known (edition c))
    (both (nat_eq (word_at 4 c reserved_at) 0)
    (nat_eq (length c) (control_length (frames c))))))))))

-- ---- shadow records, the paper's shadow frames: "u16 program account, u16 stack pages, u16 heap pages, 2 zero bytes, 32
-- registers of 8 bytes"

-- where record k starts
abbrev pub record_at : ℕ → ℕ
record_at k = shadow_at + shadow_size * k

-- record k's first three fields
unfoldable pub invocation_of : List ℕ → ℕ → Invocation
invocation_of c k =
    record {
      program = record { 0 = word_at 2 c (record_at k) };
      stack = word_at 2 c (record_at k + stack_at);
      heap = word_at 2 c (record_at k + heap_at);
    }

-- record k's registers
unfoldable pub registers_of : List ℕ → ℕ → List ℕ
registers_of c k = bytes_at registers_size c (record_at k + registers_at)

-- a record's bytes
unfoldable pub invocation_bytes : Invocation → List ℕ → List ℕ
invocation_bytes i registers =
    word_bytes 2 i.program.0 ++ (word_bytes 2 i.stack ++ (word_bytes 2 i.heap ++ (zeros 2 ++ registers)))

-- the control block with record k anew
unfoldable pub put_invocation : List ℕ → ℕ → Invocation → List ℕ → List ℕ
put_invocation c k i registers = splice c (record_at k) (invocation_bytes i registers)

-- the control block with zeros for record k
unfoldable pub clear_invocation : List ℕ → ℕ → List ℕ
clear_invocation c k = splice c (record_at k) (zeros shadow_size)

-- where a region's size stands in a record
abbrev pub region_at : Region → ℕ
region_at Stack = stack_at
region_at Heap = heap_at

-- the control block with another size of a region in record k
unfoldable pub set_pages : List ℕ → ℕ → Region → ℕ → List ℕ
set_pages c k r n = splice c (record_at k + region_at r) (word_bytes 2 n)

-- the current invocation: that of record D
abbrev pub current : List ℕ → Invocation
current c = invocation_of c (invocations c)

-- the size of a region in a record's fields
abbrev pub pages_of : Invocation → Region → ℕ
pages_of i Stack = i.stack
pages_of i Heap = i.heap

-- the size of a region in record k
abbrev pub size_in : List ℕ → Region → ℕ → ℕ
size_in c r k = pages_of (invocation_of c k) r

-- the size of a region: "n is read from frame D"
abbrev pub size_of : List ℕ → Region → ℕ
size_of c r = size_in c r (invocations c)

-- ---- validity

-- "Frame D must name a program below A and at most 4,096 pages of each region"
unfoldable pub current_valid : List ℕ → ℕ → Bool
current_valid c count =
    both (nat_lt (current c).program.0 count) (both (nat_le (current c).stack page_limit) (nat_le (current c).heap page_limit))

-- the part of the next that the control block and the pool have in it, with so many accounts
unfoldable pub control_ready : List ℕ → List ℕ → ℕ → Bool
control_ready c p count = both (control_valid c) (both (nat_eq (length p) (pool_length (frames c))) (current_valid c count))

-- "1 for headers, buffer lengths and frame D (so reads the first 1 of every order but begin's)"
unfoldable pub buffers_valid : List ℕ → List ℕ → List ℕ → Bool
buffers_valid s c p =
    both (snapshot_valid s) (control_ready c p (accounts s))
