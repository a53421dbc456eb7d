-- Document 01, "Three lent buffers": the ledger's frame table, and "Copies", with document 02, "Seven" and "Eight". Assumes nothing.
use Rattle.std.specs.Prelude.{ℕ, ◌+◌, ◌*◌, Bool, true, false, List, ◌++◌, nat_lt, nat_eq, None, Option, Some}
use Rattle.layout.specs.Control.{table_at, frame_entry_size, usage_free, usage_copy, usage_stack, usage_heap}
use Rattle.words.specs.Words.{word_at, word_bytes, splice}
use Rattle.choice.specs.Choice.{pick, both}
use Rattle.choice.specs.Search.{lowest, highest, count}
use Rattle.control.specs.Control.{frames}
use Rattle.control.specs.declared.shadow.Region.{Region}
use Rattle.control.specs.declared.shadow.Region.TheVariants.{Stack, Heap}
use Rattle.frames.specs.declared.table.FrameEntry.{FrameEntry}
use Rattle.frames.specs.declared.claim.Claim.{Claim}
use Rattle.frames.specs.declared.claim.Claim.TheVariants.{Copy, Anonymous}
use Rattle.frames.specs.declared.claim.End.{End}
use Rattle.frames.specs.declared.claim.End.TheVariants.{Lowest, Highest}
use Rattle.pages.specs.declared.Frame.{Frame}

-- ---- entries: "a use byte .., a tag byte, u16 account, u16 page, u16 zero", which "becomes, for copies, the depth at the store that made the
-- copy; stack and heap keep 0"

-- where entry i starts
abbrev pub frame_entry_at : ℕ → ℕ
frame_entry_at i = table_at + frame_entry_size * i

-- where entry i ends
abbrev pub entry_end : ℕ → ℕ
entry_end i = frame_entry_at i + frame_entry_size

-- entry i's field of w bytes at o
unfoldable pub frame_field : ℕ → ℕ → List ℕ → ℕ → ℕ
frame_field w o c i = word_at w c (frame_entry_at i + o)

-- entry i
abbrev pub frame_entry_of : List ℕ → ℕ → FrameEntry
frame_entry_of c i =
    record {
      usage = frame_field 1 0 c i;
      tag = frame_field 1 1 c i;
      account = record { 0 = frame_field 2 2 c i };
      page = record { 0 = frame_field 2 4 c i };
      depth = frame_field 2 6 c i;
    }

-- an entry's bytes
unfoldable pub frame_entry_bytes : FrameEntry → List ℕ
frame_entry_bytes e =
    word_bytes 1 e.usage ++ (word_bytes 1 e.tag ++ (word_bytes 2 e.account.0 ++ (word_bytes 2 e.page.0 ++ word_bytes 2 e.depth)))

-- the control block with entry i anew
unfoldable pub put_frame_entry : List ℕ → ℕ → FrameEntry → List ℕ
put_frame_entry c i e = splice c (frame_entry_at i) (frame_entry_bytes e)

-- an entry of zeros
abbrev pub zero_entry : FrameEntry
zero_entry = record { usage = 0; tag = 0; account = record { 0 = 0 }; page = record { 0 = 0 }; depth = 0 }

-- "Freeing zeroes the entry and leaves the pool bytes."
abbrev pub free_frame_entry : List ℕ → ℕ → List ℕ
free_frame_entry c i = put_frame_entry c i zero_entry

-- ---- who claims what

-- "2 stack, 3 heap"
abbrev pub usage_of : Region → ℕ
usage_of Stack = usage_stack
usage_of Heap = usage_heap

-- "A copy claims by account and page, a stack or heap frame by page alone."
abbrev pub holds : Claim → FrameEntry → Bool
holds (Copy a p) e = both (nat_eq e.usage usage_copy) (both (nat_eq e.account.0 a.0) (nat_eq e.page.0 p.0))
holds (Anonymous r p) e = both (nat_eq e.usage (usage_of r)) (nat_eq e.page.0 p.0)

-- entry i claims the page
unfoldable pub claims : List ℕ → Claim → ℕ → Bool
claims c q i = holds q (frame_entry_of c i)

-- entry i is a copy
abbrev pub is_copy : List ℕ → ℕ → Bool
is_copy c i = nat_eq (frame_entry_of c i).usage usage_copy

-- "0 free"
unfoldable pub is_free : List ℕ → ℕ → Bool
is_free c i = nat_eq (frame_entry_of c i).usage usage_free

-- a frame was found
abbrev pub is_found : Option Frame → Bool
is_found (Some f) = true
is_found None = false

-- an index below n as the frame that was found, n as none
unfoldable pub found_in : ℕ → ℕ → Option Frame
found_in n i = pick (nat_lt i n) (Some (record { 0 = i })) None

-- "The frame of a page is the lowest-numbered entry that claims it."
unfoldable pub frame_of : List ℕ → Claim → Option Frame
frame_of c q = found_in (frames c) (lowest (claims c q) (frames c))

-- the one choice of a free frame: document 02, "Seven", "promises one or the other by what it is asked"
unfoldable pub free_frame : End → List ℕ → Option Frame
free_frame Lowest c = found_in (frames c) (lowest (is_free c) (frames c))
free_frame Highest c = found_in (frames c) (highest (is_free c) (frames c))

-- how many frames are free
unfoldable pub free_count : List ℕ → ℕ
free_count c = count (is_free c) (frames c)
