-- Document 01, "Order for an access": kinds, lengths and alignment. Assumes nothing.
use Rattle.std.specs.Prelude.{ℕ, ◌+◌, ◌%◌, Bool, nat_le, nat_eq}
use Rattle.layout.specs.Page.{page_size}
use Rattle.words.specs.Words.{is_size}
use Rattle.choice.specs.Choice.{pick, both, either}

-- the kinds: 0 load, 1 store, 2 fetch, 3 span load, 4 span store
abbrev pub kind_load : ℕ
kind_load = 0

-- a store
abbrev pub kind_store : ℕ
kind_store = 1

-- a fetch
abbrev pub kind_fetch : ℕ
kind_fetch = 2

-- a span load
abbrev pub kind_load_span : ℕ
kind_load_span = 3

-- a span store
abbrev pub kind_store_span : ℕ
kind_store_span = 4

-- a store or a span store
abbrev pub is_store : ℕ → Bool
is_store kind = either (nat_eq kind kind_store) (nat_eq kind kind_store_span)

-- a fetch
abbrev pub is_fetch : ℕ → Bool
is_fetch kind = nat_eq kind kind_fetch

-- a span load or a span store, of the known kinds
abbrev pub is_span : ℕ → Bool
is_span kind = nat_le kind_load_span kind

-- "2 | unknown kind or wrong length"; "A span load or span store moves 1 to 4,096 bytes"
unfoldable pub request_valid : ℕ → ℕ → Bool
request_valid kind n = both (nat_le kind kind_store_span) (pick (is_span kind) (both (nat_le 1 n) (nat_le n page_size)) (is_size n))

-- "5": "an offset divisible by it"; a span "is never misaligned"
unfoldable pub aligned : ℕ → ℕ → ℕ → Bool
aligned kind offset n = either (is_span kind) (nat_eq (offset % n) 0)

-- "6 | crosses a 4,096 boundary"
unfoldable pub within : ℕ → ℕ → Bool
within offset n = nat_le (offset % page_size + n) page_size
