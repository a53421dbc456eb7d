-- Document 01, "Begin, call, return, resize": resize. Assumes nothing.
use Rattle.std.specs.Prelude.{ℕ, zero, suc, ◌+◌, ◌-◌, ◌≤◌, ◌<◌, ◌≡◌, Bool, true, List, length, get_or, nat_lt, nat_le, nat_eq, Err, None, Ok, Option, Some}
use Rattle.layout.specs.Page.{page_size, page_limit}
use Rattle.words.specs.Words.{splice, zeros}
use Rattle.choice.specs.Choice.{pick, either}
use Rattle.choice.specs.Search.{every}
use Rattle.refusal.specs.Checks.{need, ◌then◌, or_keep, Check}
use Rattle.refusal.specs.declared.Refusal.TheVariants.{Invalid, BadRequest, NotPermitted, NoFrame, TooManyPages}
use Rattle.control.specs.Buffers.{Buffers}
use Rattle.control.specs.Control.{invocations, depth, set_pages, buffers_valid, size_of}
use Rattle.control.specs.declared.shadow.Region.{Region}
use Rattle.control.specs.declared.shadow.Region.TheVariants.{Stack, Heap}
use Rattle.pages.specs.declared.Page.{Page}
use Rattle.pages.specs.Pages.{frame_start}
use Rattle.frames.specs.Table.{frame_entry_of, put_frame_entry, free_frame_entry, usage_of, frame_of, free_frame, free_count, is_found}
use Rattle.frames.specs.declared.table.FrameEntry.{FrameEntry}
use Rattle.frames.specs.declared.claim.Claim.TheVariants.{Anonymous}
use Rattle.frames.specs.declared.claim.End.TheVariants.{Lowest}
use Rattle.pages.specs.declared.Frame.{Frame}

-- the k-th page of a region, "nearest page first": the heap from page 0 up, the stack from page 4,095 down
abbrev pub page_at : Region → ℕ → Page
page_at Stack k = record { 0 = page_limit - 1 - k }
page_at Heap k = record { 0 = k }

-- ---- growing

-- "with entry (use, depth, 0, page, 0)"
abbrev pub region_entry : ℕ → Region → Page → FrameEntry
region_entry tag r q = record { usage = usage_of r; tag = tag; account = record { 0 = 0 }; page = q; depth = 0 }

-- one page more, in the frame found: its entry written and its bytes zeroed
abbrev pub grow_in : Region → Page → Buffers → Option Frame → Buffers
grow_in r q w (Some f) =
    record {
      control = put_frame_entry w.control f.0 (region_entry (depth w.control) r q);
      pool = splice w.pool (frame_start f) (zeros page_size);
    }
grow_in r q w None = w

-- "Growing takes the lowest free frames": one page more
unfoldable pub grow_one : Region → Page → Buffers → Buffers
grow_one r q w = grow_in r q w (free_frame Lowest w.control)

-- the first n new pages, from the k-th on, each in the lowest free frame
unfoldable pub grown : Region → ℕ → List ℕ → List ℕ → ℕ → Buffers
grown r k c p zero = record { control = c; pool = p }
grown r k c p (suc n) = grow_one r (page_at r (k + n)) (grown r k c p n)

-- "8 exactly when fewer are free than needed"
unfoldable pub grow_check : List ℕ → Region → ℕ → Check
grow_check c r n = need (nat_le (n - size_of c r) (free_count c)) NoFrame

-- ---- shrinking

-- the frame of the k-th page
abbrev pub page_frame : List ℕ → Region → ℕ → Option Frame
page_frame c r k = frame_of c (Anonymous r (page_at r k))

-- no "tag below the depth"
abbrev pub may_leave : List ℕ → Option Frame → Bool
may_leave c (Some f) = nat_le (depth c) (frame_entry_of c f.0).tag
may_leave c None = true

-- the n pages from the k-th on all have frames
unfoldable pub all_held : List ℕ → Region → ℕ → ℕ → Bool
all_held c r k n = every (λ i. is_found (page_frame c r (k + i))) n

-- none of them has a tag below the depth
unfoldable pub all_leave : List ℕ → Region → ℕ → ℕ → Bool
all_leave c r k n = every (λ i. may_leave c (page_frame c r (k + i))) n

-- "1 if one has no frame, then 7 if one has a tag below the depth"
unfoldable pub shrink_check : List ℕ → Region → ℕ → Check
shrink_check c r n =
    need (all_held c r n (size_of c r - n)) Invalid
    then need (all_leave c r n (size_of c r - n)) NotPermitted

-- the frame found is freed
abbrev pub free_found : List ℕ → Option Frame → List ℕ
free_found c (Some f) = free_frame_entry c f.0
free_found c None = c

-- "Shrinking frees the outermost pages": the n pages from the k-th on, each by its frame in c
unfoldable pub shrunk : List ℕ → Region → ℕ → ℕ → List ℕ
shrunk c r k zero = c
shrunk c r k (suc n) = free_found (shrunk c r k n) (page_frame c r (k + n))

-- ---- the call

-- "On success frame D's size of that region becomes n."
abbrev pub sized : List ℕ → Region → ℕ → List ℕ
sized c r n = set_pages c (invocations c) r n

-- what the tests answer, and both buffers afterwards
pub record Resized : Type 0 where
  pub answer : Check
  pub after : Buffers

-- growing to n pages
unfoldable pub grow_to : List ℕ → List ℕ → Region → ℕ → Resized
grow_to c p r n =
    record {
      answer = grow_check c r n;
      after =
          record {
            control = or_keep (grow_check c r n) c (sized (grown r (size_of c r) c p (n - size_of c r)).control r n);
            pool = or_keep (grow_check c r n) p (grown r (size_of c r) c p (n - size_of c r)).pool;
          };
    }

-- the control block after shrinking to n pages
unfoldable pub shrink_control : List ℕ → Region → ℕ → List ℕ
shrink_control c r n = or_keep (shrink_check c r n) c (sized (shrunk c r n (size_of c r - n)) r n)

-- growing, shrinking, which "leaves the pool bytes"; "Equal n changes nothing."
unfoldable pub resize_to : List ℕ → List ℕ → Region → ℕ → Resized
resize_to c p r n =
    pick (nat_lt (size_of c r) n) (grow_to c p r n)
    (pick (nat_lt n (size_of c r))
    (record { answer = shrink_check c r n; after = record { control = shrink_control c r n; pool = p } })
    (record { answer = Ok tt; after = record { control = c; pool = p } }))

-- "1, 2 (neither stack nor heap), 10"
unfoldable pub resize_check : List ℕ → List ℕ → List ℕ → ℕ → ℕ → Check
resize_check s c p code n =
    need (buffers_valid s c p) Invalid
    then need (either (nat_eq code (usage_of Stack)) (nat_eq code (usage_of Heap))) BadRequest
    then need (nat_le n page_limit) TooManyPages

-- the region of a code that passed
abbrev pub region_of : ℕ → Region
region_of code = pick (nat_eq code (usage_of Stack)) Stack Heap

-- what is done, or the refusal and both buffers as they were
abbrev pub or_refused : Check → List ℕ → List ℕ → Resized → Resized
or_refused (Ok tt) c p o = o
or_refused (Err r) c p o = record { answer = Err r; after = record { control = c; pool = p } }

-- a resize
unfoldable pub resize_of : List ℕ → List ℕ → List ℕ → ℕ → ℕ → Resized
resize_of s c p code n = or_refused (resize_check s c p code n) c p (resize_to c p (region_of code) n)

-- the frames of the n pages from the k-th on, as a list: each page has one, and the list has it at the page's place
pub record FramesOf (c : List ℕ) (r : Region) (k n : ℕ) (t : List ℕ) : Type 0 where
  pub size : n ≤ length t
  pub each : (j : ℕ) → j < n → page_frame c r (k + j) ≡ Some (record { 0 = get_or t j 0 })
