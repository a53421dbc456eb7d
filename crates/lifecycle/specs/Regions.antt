-- The frames of a region in a control block that begin, call, return and resize have made. Document 01 does not name it; the frame
-- count rule stands on it. Assumes nothing.
use Rattle.std.specs.Prelude.{ℕ, suc, ◌≤◌, ◌<◌, ◌≡◌, Bool, true, not, List, nat_lt, nat_eq}
use Rattle.layout.specs.Control.{usage_copy}
use Rattle.layout.specs.Page.{page_limit}
use Rattle.choice.specs.Search.{lowest, count}
use Rattle.control.specs.Control.{frames, invocations, size_in, size_of}
use Rattle.control.specs.declared.shadow.Region.{Region}
use Rattle.control.specs.declared.shadow.Region.TheVariants.{Stack, Heap}
use Rattle.frames.specs.Table.{frame_entry_of, usage_of, claims, is_free}
use Rattle.frames.specs.declared.claim.Claim.TheVariants.{Anonymous}
use Rattle.regions.specs.Resize.{page_at}

-- ---- pages and frames: what the frame count needs

-- entry i claims the k-th page
abbrev pub holds_page : List ℕ → Region → ℕ → ℕ → Bool
holds_page c r k i = claims c (Anonymous r (page_at r k)) i

-- the k-th page is claimed exactly once
pub record HeldOnce (c : List ℕ) (r : Region) (k : ℕ) : Type 0 where
  pub frame : ℕ
  pub below : frame < frames c
  pub claimed : holds_page c r k frame ≡ true
  pub only : (i : ℕ) → i < frames c → holds_page c r k i ≡ true → i ≡ frame

-- an entry of the region holds one of its pages
pub record OfPage (c : List ℕ) (r : Region) (i : ℕ) : Type 0 where
  pub page : ℕ
  pub below : page < size_of c r
  pub held : holds_page c r page i ≡ true

-- each page within the size is held once; no other frame is the region's
pub record RegionHeld (c : List ℕ) (r : Region) : Type 0 where
  pub most : size_of c r ≤ page_limit
  pub held : (k : ℕ) → k < size_of c r → HeldOnce c r k
  pub only : (i : ℕ) → i < frames c → (frame_entry_of c i).usage ≡ usage_of r → OfPage c r i

-- ---- tags and sizes of the stack: what a return needs, which "frees stack frames only". Of the heap nothing is said: a deeper invocation leaves
-- its pages with their tags, and heap sizes of records below the current one are stale until their callee returns

-- the size of a region at depth j, that of record j + 1, is above k
abbrev pub reaches : List ℕ → Region → ℕ → ℕ → Bool
reaches c r k j = nat_lt k (size_in c r (suc j))

-- the depth of the k-th page: the least at which a live invocation's size is above k
unfoldable pub grown_at : List ℕ → Region → ℕ → ℕ
grown_at c r k = lowest (reaches c r k) (invocations c)

-- sizes never fall from caller to callee
abbrev pub Rise : List ℕ → Region → Type 0
Rise c r = (i j : ℕ) → 1 ≤ i → i ≤ j → j ≤ invocations c → size_in c r i ≤ size_in c r j

-- and an entry that claims a page within the size has the page's depth as its tag
pub record RegionTagged (c : List ℕ) (r : Region) : Type 0 where
  pub rise : Rise c r
  pub tag : (k i : ℕ) → k < size_of c r → i < frames c → holds_page c r k i ≡ true → (frame_entry_of c i).tag ≡ grown_at c r k

-- ---- both regions

-- the pages of each region, the tags of the stack, and no entry has a use that is not named
pub record Rights (c : List ℕ) : Type 0 where
  pub held : (r : Region) → RegionHeld c r
  pub tagged : RegionTagged c Stack
  pub few : (i : ℕ) → i < frames c → (frame_entry_of c i).usage ≤ usage_of Heap

-- ---- how many frames

-- how many entries have this use
unfoldable pub frames_with : List ℕ → ℕ → ℕ
frames_with c u = count (λ i. nat_eq (frame_entry_of c i).usage u) (frames c)

-- those of a region
abbrev pub frames_of : List ℕ → Region → ℕ
frames_of c r = frames_with c (usage_of r)

-- those that hold copies
abbrev pub frames_of_copies : List ℕ → ℕ
frames_of_copies c = frames_with c usage_copy

-- those that are not free
unfoldable pub frames_in_use : List ℕ → ℕ
frames_in_use c = count (λ i. not (is_free c i)) (frames c)
