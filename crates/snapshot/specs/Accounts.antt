-- Document 01, "Three lent buffers": the account entries of the ground, here the snapshot s. Assumes nothing.
use Rattle.std.specs.Prelude.{ℕ, ◌+◌, ◌*◌, ◌/◌, ◌%◌, Bool, not, List, nat_lt, nat_le, nat_eq}
use Rattle.layout.specs.Snapshot.{header_size, entry_size, metadata_offset, data_limit}
use Rattle.words.specs.Words.{word_at, bytes_at}
use Rattle.choice.specs.Choice.{pick, both, either}
use Rattle.snapshot.specs.Header.{header_of, accounts}
use Rattle.snapshot.specs.declared.accounts.Account.{Account}
use Rattle.snapshot.specs.declared.accounts.AccountEntry.{AccountEntry}

-- "account below A"
abbrev pub known : List ℕ → Account → Bool
known s a = nat_lt a.0 (accounts s)

-- where the entry of an account starts: the table has 80 bytes for each
abbrev pub entry_at : Account → ℕ
entry_at a = header_size + entry_size * a.0

-- "u16 flags (1 exists, 2 writable), u16 owner (account number of the owning program), u32 data length .., u32 data offset from
-- the ground's start, u32 zero"
unfoldable pub entry_of : List ℕ → Account → AccountEntry
entry_of s a =
    record {
      flags = word_at 2 s (entry_at a);
      owner = record { 0 = word_at 2 s (entry_at a + 2) };
      length = word_at 4 s (entry_at a + 4);
      start = word_at 4 s (entry_at a + 8);
      zero = word_at 4 s (entry_at a + 12);
    }

-- "1 exists"
abbrev pub exists : AccountEntry → Bool
exists e = nat_eq (e.flags % 2) 1

-- "One that does not exist has .. no leave to write"; "2 writable"
abbrev pub writable : AccountEntry → Bool
writable e = both (exists e) (nat_eq (e.flags / 2 % 2) 1)

-- "One that does not exist has length 0"
abbrev pub data_length : AccountEntry → ℕ
data_length e = pick (exists e) e.length 0

-- "its fourth word is 0, its length is at most 2^24 and its data lies between the data offset and the total"
unfoldable pub body_valid : ℕ → ℕ → AccountEntry → Bool
body_valid dataAt total e =
    both (nat_eq e.zero 0)
    (both (nat_le e.length data_limit) (both (nat_le dataAt e.start) (nat_le (e.start + e.length) total)))

-- "An entry is fit if flags are 0..3 and, where it exists, .."
unfoldable pub valid_within : ℕ → ℕ → AccountEntry → Bool
valid_within dataAt total e = both (nat_le e.flags 3) (either (not (exists e)) (body_valid dataAt total e))

-- the entry of an account is fit, with the ground's own data offset and total
unfoldable pub entry_valid : List ℕ → Account → Bool
entry_valid s a = valid_within (header_of s).data_at (header_of s).total (entry_of s a)

-- where the metadata starts
abbrev pub metadata_at : Account → ℕ
metadata_at a = entry_at a + metadata_offset

-- an account's original data
unfoldable pub original : List ℕ → Account → List ℕ
original s a = bytes_at (data_length (entry_of s a)) s (entry_of s a).start
