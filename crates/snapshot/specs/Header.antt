-- Document 01, "Three lent buffers": the header of the ground, here the snapshot s. Assumes nothing.
use Rattle.std.specs.Prelude.{ℕ, ◌+◌, ◌*◌, Bool, List, length, nat_le, nat_eq}
use Rattle.layout.specs.Snapshot.{header_size, entry_size, context_size, account_limit, context_limit, transaction_limit, snapshot_limit}
use Rattle.words.specs.Words.{word_at}
use Rattle.choice.specs.Choice.{both}
use Rattle.snapshot.specs.declared.header.Header.{Header}

-- "Header of eight u32: account count A .., block contexts B .., transaction length T .., then the offsets of the account table .., of the
-- contexts .., of the transaction .. and of the data .., then the total length"
unfoldable pub header_of : List ℕ → Header
header_of s =
    record {
      accounts = word_at 4 s 0;
      contexts = word_at 4 s 4;
      transaction = word_at 4 s 8;
      accounts_at = word_at 4 s 12;
      contexts_at = word_at 4 s 16;
      transaction_at = word_at 4 s 20;
      data_at = word_at 4 s 24;
      total = word_at 4 s 28;
    }

-- A
abbrev pub accounts : List ℕ → ℕ
accounts s = (header_of s).accounts

-- B
abbrev pub contexts : List ℕ → ℕ
contexts s = (header_of s).contexts

-- T
abbrev pub transaction : List ℕ → ℕ
transaction s = (header_of s).transaction

-- "A (0..64), block contexts B (0..512), transaction length T (0..65,536)"
unfoldable pub counts_valid : Header → Bool
counts_valid h = both (nat_le h.accounts account_limit) (both (nat_le h.contexts context_limit) (nat_le h.transaction transaction_limit))

-- "the offsets of the account table (32), of the contexts (32+80A), of the transaction (32+80A+120B) and of the data (that plus T)"
unfoldable pub offsets_valid : Header → Bool
offsets_valid h =
    both (nat_eq h.accounts_at header_size)
    (both (nat_eq h.contexts_at (header_size + entry_size * h.accounts))
    (both (nat_eq h.transaction_at (header_size + entry_size * h.accounts + context_size * h.contexts))
    (nat_eq h.data_at (header_size + entry_size * h.accounts + context_size * h.contexts + h.transaction))))

-- "then the total length, which equals the buffer's length, is not below the data offset and is at most 2^31"
unfoldable pub total_valid : Header → ℕ → Bool
total_valid h size = both (nat_eq h.total size) (both (nat_le h.data_at h.total) (nat_le h.total snapshot_limit))

-- the ground's header is fit
unfoldable pub snapshot_valid : List ℕ → Bool
snapshot_valid s =
    both (nat_le header_size (length s))
    (both (counts_valid (header_of s)) (both (offsets_valid (header_of s)) (total_valid (header_of s) (length s))))
