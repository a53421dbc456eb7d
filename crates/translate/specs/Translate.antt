-- Document 01, "Addresses and segments", "Order for an access" and "Copies", with document 02, "Six": translation. Assumes nothing.
use Rattle.std.specs.Prelude.{ℕ, ◌+◌, ◌-◌, ◌*◌, ◌/◌, ◌%◌, ◌<◌, ◌≡◌, Bool, true, false, not, List, nat_lt, nat_le, nat_eq, Err, None, Ok, Option, Some}
use Rattle.layout.specs.Page.{page_size}
use Rattle.layout.specs.Control.{older, shadow_at, table_at}
use Rattle.layout.specs.Snapshot.{context_size, metadata_size}
use Rattle.layout.specs.Address.{offsets}
use Rattle.choice.specs.Choice.{pick, both, either}
use Rattle.refusal.specs.declared.Refusal.TheVariants.{Invalid, NoSegment, NotPermitted, NoFrame}
use Rattle.address.specs.Address.{type_of, index_of, offset_of}
use Rattle.snapshot.specs.Header.{header_of, accounts, contexts, transaction, snapshot_valid}
use Rattle.snapshot.specs.Accounts.{entry_of, entry_valid, exists, writable, data_length, metadata_at, known}
use Rattle.snapshot.specs.declared.accounts.Account.{Account}
use Rattle.snapshot.specs.declared.accounts.AccountEntry.{AccountEntry}
use Rattle.control.specs.Control.{depth, edition, current, control_valid, current_valid, buffers_valid}
use Rattle.control.specs.declared.shadow.Region.{Region}
use Rattle.control.specs.declared.shadow.Region.TheVariants as region
use Rattle.pages.specs.Pages.{in_frame, page_of}
use Rattle.frames.specs.Table.{frame_entry_of, frame_of, free_frame}
use Rattle.frames.specs.declared.claim.Claim.TheVariants.{Copy, Anonymous}
use Rattle.frames.specs.declared.claim.End.TheVariants.{Highest}
use Rattle.segments.specs.Kinds.{is_store, request_valid}
use Rattle.segments.specs.Rules.{segment_of, permitted}
use Rattle.segments.specs.declared.rules.Presence.{Presence}
use Rattle.segments.specs.declared.rules.Presence.TheVariants.{Transaction, Shadow, Program, Context, Metadata, Data, Stack, Heap}
use Rattle.segments.specs.declared.rules.FetchRule.{FetchRule}
use Rattle.segments.specs.declared.rules.StoreRule.{StoreRule}
use Rattle.segments.specs.declared.rules.Row.{Row}
use Rattle.translate.specs.Checks.{first_checks, row_checks}
use Rattle.translate.specs.Place.{refusing, Translation}
use Rattle.translate.specs.declared.request.Request.{Request}
use Rattle.translate.specs.declared.place.Place.{Place}
use Rattle.translate.specs.declared.place.Place.TheVariants.{InSnapshot, InControl, Zeros, InPool, Take}
use Rattle.translate.specs.declared.sought.Sought.{Sought}
use Rattle.translate.specs.declared.sought.Source.{Source}
use Rattle.translate.specs.declared.sought.Source.TheVariants as source
use Rattle.translate.specs.declared.sought.Buffer.{Buffer}
use Rattle.translate.specs.declared.sought.Buffer.TheVariants as buffer
use Rattle.refusal.specs.Checks.{Check}
use Rattle.pages.specs.declared.Frame.{Frame}

-- ---- what a row asks

-- the account that an index names
abbrev pub indexed : Request → Account
indexed q = record { 0 = q.index }

-- the current program: "Frame D must name a program"
abbrev pub program : List ℕ → Account
program c = (current c).program

-- "1 for the entry of the account concerned": the index's in types 2 and 3, the current program's in 0/3, none in the other rows
unfoldable pub concerned_valid : List ℕ → List ℕ → Presence → Request → Bool
concerned_valid s c Transaction q = true
concerned_valid s c Shadow q = true
concerned_valid s c Program q = entry_valid s (program c)
concerned_valid s c Context q = true
concerned_valid s c Metadata q = entry_valid s (indexed q)
concerned_valid s c Data q = entry_valid s (indexed q)
concerned_valid s c Stack q = true
concerned_valid s c Heap q = true

-- "writable, and owned by the current program"
abbrev pub owned_by : AccountEntry → Account → Bool
owned_by e a = both (writable e) (nat_eq e.owner.0 a.0)

-- the same of the account whose data the segment is; the other segments are no account's data
unfoldable pub owned : List ℕ → List ℕ → Presence → Request → Bool
owned s c Transaction q = false
owned s c Shadow q = false
owned s c Program q = false
owned s c Context q = false
owned s c Metadata q = false
owned s c Data q = owned_by (entry_of s (indexed q)) (program c)
owned s c Stack q = false
owned s c Heap q = false

-- "the current program's account", in the older edition
abbrev pub runs : ℕ → Account → Account → Bool
runs e a b = both (nat_eq e older) (nat_eq a.0 b.0)

-- the same of the account whose data the segment is; the other segments are no account's data
unfoldable pub running : List ℕ → Presence → Request → Bool
running c Transaction q = false
running c Shadow q = false
running c Program q = false
running c Context q = false
running c Metadata q = false
running c Data q = runs (edition c) (indexed q) (program c)
running c Stack q = false
running c Heap q = false

-- block context: "offset/4,096 below B and remainder below 120"
abbrev pub context_end : ℕ → ℕ → ℕ
context_end count offset = pick (nat_lt (offset / page_size) count) (page_size * (offset / page_size) + context_size) 0

-- stack: "top n stack pages: offsets from 2^24−4,096n"; heap: "lowest n heap pages"
abbrev pub region_end : Region → ℕ → ℕ → ℕ
region_end region.Stack n offset = pick (nat_le (offsets - page_size * n) offset) offsets 0
region_end region.Heap n offset = page_size * n

-- the column "Bytes present": where the bytes that are present from the offset on end; below the offset none is
unfoldable pub end_of : List ℕ → List ℕ → Presence → Request → ℕ
end_of s c Transaction q = transaction s
end_of s c Shadow q = table_at - shadow_at
end_of s c Program q = data_length (entry_of s (program c))
end_of s c Context q = context_end (contexts s) q.offset
end_of s c Metadata q = metadata_size
end_of s c Data q = data_length (entry_of s (indexed q))
end_of s c Stack q = region_end region.Stack (current c).stack q.offset
end_of s c Heap q = region_end region.Heap (current c).heap q.offset

-- the row's tests, in order
unfoldable pub row_check : List ℕ → List ℕ → Presence → FetchRule → StoreRule → Request → Check
row_check s c p fetch store q =
    row_checks (concerned_valid s c p q) (permitted q.kind fetch store (running c p q) (owned s c p q)) q (end_of s c p q)

-- where the first byte stands in its buffer, frames aside: by the column "Bytes present"; a region's bytes stand in frames alone
unfoldable pub start_of : List ℕ → List ℕ → Presence → Request → ℕ
start_of s c Transaction q = (header_of s).transaction_at + q.offset
start_of s c Shadow q = shadow_at + q.offset
start_of s c Program q = (entry_of s (program c)).start + q.offset
start_of s c Context q = (header_of s).contexts_at + context_size * (q.offset / page_size) + q.offset % page_size
start_of s c Metadata q = metadata_at (indexed q) + q.offset
start_of s c Data q = (entry_of s (indexed q)).start + q.offset
start_of s c Stack q = 0
start_of s c Heap q = 0

-- where an account's metadata stands. 000: "Non-existent accounts: Returns pointer to zeroed metadata structure"
abbrev pub metadata_buffer : AccountEntry → Buffer
metadata_buffer e = pick (exists e) buffer.Snapshot buffer.Zeros

-- where the bytes of a row stand, by the column "Bytes present"
unfoldable pub source_of : List ℕ → Presence → Request → Source
source_of s Transaction q = source.Plain buffer.Snapshot
source_of s Shadow q = source.Plain buffer.Control
source_of s Program q = source.Plain buffer.Snapshot
source_of s Context q = source.Plain buffer.Snapshot
source_of s Metadata q = source.Plain (metadata_buffer (entry_of s (indexed q)))
source_of s Data q = source.Copy
source_of s Stack q = source.Region region.Stack
source_of s Heap q = source.Region region.Heap

-- where the entry is not valid, nothing more is asked
unfoldable pub no_entry : Sought
no_entry = record { entry = false; permitted = false; end = 0; source = source.Plain buffer.Zeros; at = 0 }

-- what a row asks of the buffers, column by column
unfoldable pub sought_of : List ℕ → List ℕ → Presence → FetchRule → StoreRule → Request → Sought
sought_of s c p fetch store q =
    pick (concerned_valid s c p q)
    (record {
      entry = true;
      permitted = permitted q.kind fetch store (running c p q) (owned s c p q);
      end = end_of s c p q;
      source = source_of s p q;
      at = start_of s c p q;
    })
    no_entry

-- ---- the place, once every byte is present

-- "An accepted store to an account page without a frame takes" a free frame; "last 8"
abbrev pub copy_place : Account → ℕ → Option Frame → Translation
copy_place a offset (Some f) = Ok (Take (record { at = in_frame f offset; frame = f; account = a; page = page_of offset }))
copy_place a offset None = Err NoFrame

-- "A page with a frame is stored to in that frame. Later loads in type 3 and views read the frame"; without one the original is read, and
-- document 02, "Seven": "Account copies shall take the highest free frame"
abbrev pub data_place_in : List ℕ → ℕ → Account → ℕ → ℕ → Option Frame → Translation
data_place_in c kind a offset at (Some f) = Ok (InPool (in_frame f offset))
data_place_in c kind a offset at None = pick (is_store kind) (copy_place a offset (free_frame Highest c)) (Ok (InSnapshot at))

-- the same, with the frame that the table names
unfoldable pub data_place : List ℕ → ℕ → Account → ℕ → ℕ → Translation
data_place c kind a offset at = data_place_in c kind a offset at (frame_of c (Copy a (page_of offset)))

-- "for stack and heap 1 if no frame claims the page, 7 by tag for a store"; "tag at or above the depth"
abbrev pub region_place_in : List ℕ → ℕ → ℕ → Option Frame → Translation
region_place_in c kind offset (Some f) =
    pick (either (not (is_store kind)) (nat_le (depth c) (frame_entry_of c f.0).tag)) (Ok (InPool (in_frame f offset))) (Err NotPermitted)
region_place_in c kind offset None = Err Invalid

-- the same, with the frame that the table names
unfoldable pub region_place : List ℕ → Region → ℕ → ℕ → Translation
region_place c r kind offset = region_place_in c kind offset (frame_of c (Anonymous r (page_of offset)))

-- the presence of a region's segment
abbrev pub presence_of : Region → Presence
presence_of region.Stack = Stack
presence_of region.Heap = Heap

-- the place in a buffer
abbrev pub buffer_place : Buffer → ℕ → Place
buffer_place buffer.Snapshot at = InSnapshot at
buffer_place buffer.Control at = InControl at
buffer_place buffer.Zeros at = Zeros

-- where it stands, by its source
unfoldable pub place_in : List ℕ → Request → Source → ℕ → Translation
place_in c q (source.Plain b) at = Ok (buffer_place b at)
place_in c q source.Copy at = data_place c q.kind (indexed q) q.offset at
place_in c q (source.Region r) at = region_place c r q.kind q.offset

-- where it stands, with the frame that holds its page
unfoldable pub place_of : List ℕ → List ℕ → Presence → Request → Translation
place_of s c p q = place_in c q (source_of s p q) (start_of s c p q)

-- the tests of what was sought, then this
abbrev pub tested : Request → Sought → Translation → Translation
tested q x t = refusing (row_checks x.entry x.permitted q x.end) t

-- what was sought, answered
unfoldable pub answer_of : List ℕ → Request → Sought → Translation
answer_of c q x = tested q x (place_in c q x.source x.at)

-- the row's tests, then the place
unfoldable pub in_row : List ℕ → List ℕ → Presence → FetchRule → StoreRule → Request → Translation
in_row s c p fetch store q = refusing (row_check s c p fetch store q) (place_of s c p q)

-- ---- translation

-- "4", and then the row's
unfoldable pub in_segment : List ℕ → List ℕ → Option Row → Request → Translation
in_segment s c None q = Err NoSegment
in_segment s c (Some r) q = in_row s c r.presence r.fetch r.store q

-- "Translation changes nothing and answers one of: a place in ground, a place in ledger, zeros, a place in pool, a frame that
-- would be taken for a copy, or a refusal."
unfoldable pub translate_of : List ℕ → List ℕ → List ℕ → ℕ → ℕ → ℕ → Translation
translate_of s c p kind a n =
    refusing (first_checks (buffers_valid s c p) kind a n)
    (in_segment s c (segment_of (edition c) (type_of a) (index_of a) (accounts s))
    (record { kind = kind; index = index_of a; offset = offset_of a; length = n }))

-- the account that a segment's index names is below A: "4" has been asked
abbrev pub Named : List ℕ → Presence → Request → Type 0
Named s Transaction q = Unit {0}
Named s Shadow q = Unit {0}
Named s Program q = Unit {0}
Named s Context q = Unit {0}
Named s Metadata q = known s (indexed q) ≡ true
Named s Data q = known s (indexed q) ≡ true
Named s Stack q = Unit {0}
Named s Heap q = Unit {0}

-- what is known once the first tests have passed
pub record Ready (s c : List ℕ) (q : Request) : Type 0 where
  pub snapshot : snapshot_valid s ≡ true
  pub control : control_valid c ≡ true
  pub current : current_valid c (accounts s) ≡ true
  pub request : request_valid q.kind q.length ≡ true
  pub offset : q.offset < offsets
