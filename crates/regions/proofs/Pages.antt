-- The pages of a region, by their place from the nearest on: their numbers, their entries and their frames. Assumes nothing.
use Rattle.std.proofs.Common.{ℕ, ◌≤◌, ◌<◌, ◌≡◌, refl, ap, true, false, ◌≢◌, List, arith, length}
use Rattle.layout.specs.Control.{usage_copy}
use Rattle.layout.specs.Page.{page_limit}
use Rattle.snapshot.specs.declared.accounts.Account.{Account}
use Rattle.control.specs.Control.{frames, control_valid}
use Rattle.control.specs.declared.shadow.Region.{Region}
use Rattle.control.specs.declared.shadow.Region.TheVariants.{Stack, Heap}
use Rattle.control.proofs.Facts.{ControlFacts, control_facts}
use Rattle.pages.specs.declared.Page.{Page}
use Rattle.frames.specs.Table.{entry_end, frame_entry_of, usage_of, holds, claims, is_free}
use Rattle.frames.specs.declared.table.FrameEntry.{FrameEntry}
use Rattle.frames.specs.declared.claim.Claim.{Claim}
use Rattle.frames.specs.declared.claim.Claim.TheVariants.{Copy}
use Rattle.frames.proofs.Entries.{EntryRange}
use Rattle.frames.proofs.Claims.{unused}
use Rattle.regions.specs.Resize.{page_at, region_entry}

-- a page's number is below the limit
pub page_below : (r : Region) (k : ℕ) → k < page_limit → (page_at r k).0 < page_limit
page_below Stack k l = omega arith
page_below Heap k l = omega arith

-- a number belongs to one page
pub page_one : (r : Region) (j k : ℕ) → j < page_limit → k < page_limit → (page_at r j).0 ≡ (page_at r k).0 → j ≡ k
page_one Stack j k l m e = omega arith
page_one Heap j k l m e = omega arith

-- a region's frames are not free
pub usage_some : (r : Region) → usage_of r ≢ 0
usage_some Stack h = omega arith
usage_some Heap h = omega arith

-- nor copies
pub usage_no_copy : (r : Region) → usage_of r ≢ usage_copy
usage_no_copy Stack h = omega arith
usage_no_copy Heap h = omega arith

-- each region's use byte is its own
pub usage_one : (r r' : Region) → usage_of r ≡ usage_of r' → r ≡ r'
usage_one Stack Stack e = refl
usage_one Stack Heap e = absurd (omega arith)
usage_one Heap Stack e = absurd (omega arith)
usage_one Heap Heap e = refl

-- the entry of a page is in range
pub page_range : (d : ℕ) (r : Region) (q : Page) → d < 256 → q.0 < 65536 → EntryRange (region_entry d r q)
page_range d Stack q h l = record { usage = omega arith; tag = h; account = omega arith; page = l; depth = omega arith }
page_range d Heap q h l = record { usage = omega arith; tag = h; account = omega arith; page = l; depth = omega arith }

-- it is no copy
pub page_no_copy : (d : ℕ) (r : Region) (q : Page) (a : Account) (p : Page) → holds (Copy a p) (region_entry d r q) ≡ false
page_no_copy d Stack q a p = refl
page_no_copy d Heap q a p = refl

-- the entry of each frame lies in a valid control block
pub entry_inside : (c : List ℕ) (i : ℕ) → control_valid c ≡ true → i < frames c → entry_end i ≤ length c
entry_inside c i v l = let f : ControlFacts c = control_facts c v in omega arith

-- entries that are the same are both free or both in use
pub free_ext : (c d : List ℕ) (i : ℕ) → frame_entry_of d i ≡ frame_entry_of c i → is_free d i ≡ is_free c i
unfolding is_free
free_ext c d i e = ap unused e

-- and claim the same
pub claims_ext : (c d : List ℕ) (q : Claim) (i : ℕ) → frame_entry_of d i ≡ frame_entry_of c i → claims d q i ≡ claims c q i
unfolding claims
claims_ext c d q i e = ap (λ (x : FrameEntry). holds q x) e
