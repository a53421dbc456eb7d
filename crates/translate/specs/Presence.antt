-- Document 01, "Addresses and segments", the column "Bytes present": which bytes of a segment are present, one by one. What distances
-- mean is said with it. Assumes nothing.
use Rattle.std.specs.Prelude.{ℕ, ◌-◌, ◌*◌, ◌/◌, ◌%◌, Bool, List, nat_lt, nat_le}
use Rattle.layout.specs.Page.{page_size}
use Rattle.layout.specs.Address.{offsets}
use Rattle.layout.specs.Control.{shadow_at, table_at}
use Rattle.layout.specs.Snapshot.{context_size, metadata_size}
use Rattle.choice.specs.Choice.{both}
use Rattle.snapshot.specs.Header.{contexts, transaction}
use Rattle.snapshot.specs.Accounts.{entry_of, data_length}
use Rattle.snapshot.specs.declared.accounts.Account.{Account}
use Rattle.control.specs.Control.{current}
use Rattle.segments.specs.declared.rules.Presence.{Presence}
use Rattle.segments.specs.declared.rules.Presence.TheVariants.{Transaction, Shadow, Program, Context, Metadata, Data, Stack, Heap}
use Rattle.translate.specs.Translate.{program}

-- the byte at an offset of the segment with this presence, whose index names this account: "T bytes"; "17 frames as in the ledger";
-- "original data of the current program's account"; "offset/4,096 below B and remainder below 120"; "64 bytes of metadata"; "data
-- of account index"; "top n stack pages: offsets from 2^24−4,096n"; "lowest n heap pages"
unfoldable pub present_at : List ℕ → List ℕ → Presence → Account → ℕ → Bool
present_at s c Transaction a o = nat_lt o (transaction s)
present_at s c Shadow a o = nat_lt o (table_at - shadow_at)
present_at s c Program a o = nat_lt o (data_length (entry_of s (program c)))
present_at s c Context a o = both (nat_lt (o / page_size) (contexts s)) (nat_lt (o % page_size) context_size)
present_at s c Metadata a o = nat_lt o metadata_size
present_at s c Data a o = nat_lt o (data_length (entry_of s a))
present_at s c Stack a o = both (nat_le (offsets - page_size * (current c).stack) o) (nat_lt o offsets)
present_at s c Heap a o = nat_lt o (page_size * (current c).heap)
