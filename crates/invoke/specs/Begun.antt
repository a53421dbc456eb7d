-- Rules: "Begin, call, return, resize": what an accepted begin leaves, with no page and with one. Both follow from the definition by resizing. Assumes nothing.
use Rattle.std.specs.Prelude.{ℕ, ◌≡◌, List, length}
use Rattle.layout.specs.Page.{page_size}
use Rattle.words.specs.Words.{splice, zeros}
use Rattle.control.specs.Control.{set_pages}
use Rattle.control.specs.declared.shadow.Region.TheVariants.{Stack}
use Rattle.frames.specs.Table.{put_frame_entry}
use Rattle.frames.specs.declared.table.FrameEntry.{FrameEntry}
use Rattle.invoke.specs.Invoke.{fresh, begin_control, begin_pool}
use Rattle.invoke.specs.declared.begin.Start.{Start}

-- "With no page that is all, and the pool stays"
pub record NoPage (s c p : List ℕ) (x : Start) : Type 0 where
  pub control : begin_control s c p x ≡ fresh (length c) x
  pub pool : begin_pool s c p x ≡ p

-- the entry of the stack page: use 2, "tag 0", no account, page 4,095, which is the first that a stack takes
abbrev pub stack_entry : FrameEntry
stack_entry = record { usage = 2; tag = 0; account = record { 0 = 0 }; page = record { 0 = 4095 }; depth = 0 }

-- "taking frame 0 of the pool, zeroed": entry 0 is written, record 1 has one stack page, and no other byte of the pool changes
pub record OnePage (s c p : List ℕ) (x : Start) : Type 0 where
  pub control : begin_control s c p x ≡ set_pages (put_frame_entry (fresh (length c) x) 0 stack_entry) 1 Stack 1
  pub pool : begin_pool s c p x ≡ splice p 0 (zeros page_size)
