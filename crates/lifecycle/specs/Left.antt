-- Document 02, "Four": what becomes of the heap at a return, and which of its pages an invocation may free, as statements. Assumes nothing.
use Rattle.std.specs.Prelude.{ℕ, ◌-◌, ◌≤◌, ◌<◌, ◌≡◌, true, List, Ok}
use Rattle.control.specs.Control.{frames, depth, size_of}
use Rattle.control.specs.declared.shadow.Region.{Region}
use Rattle.control.specs.declared.shadow.Region.TheVariants.{Heap}
use Rattle.pages.specs.declared.Page.{Page}
use Rattle.frames.specs.Table.{frame_entry_of, usage_of, frame_of}
use Rattle.frames.specs.declared.claim.Claim.TheVariants.{Anonymous}
use Rattle.invoke.specs.Invoke.{returned}
use Rattle.regions.specs.Resize.{shrink_check}
use Rattle.lifecycle.specs.Regions.{holds_page}

-- "Heap pages must outlive the return": the caller, one less deep, has them all, each in its frame, whose entry keeps its tag
pub record Outlives (c : List ℕ) : Type 0 where
  pub shallower : depth (returned c) ≡ depth c - 1
  pub size : size_of (returned c) Heap ≡ size_of c Heap
  pub frame : (q : Page) → frame_of (returned c) (Anonymous Heap q) ≡ frame_of c (Anonymous Heap q)
  pub entry : (i : ℕ) → i < frames c → (frame_entry_of c i).usage ≡ usage_of Heap → frame_entry_of (returned c) i ≡ frame_entry_of c i

-- "no page further out has a tag below its depth": none from the n-th on
abbrev pub NoneBelow : List ℕ → Region → ℕ → Type 0
NoneBelow c r n = (k i : ℕ) → n ≤ k → k < size_of c r → i < frames c → holds_page c r k i ≡ true → depth c ≤ (frame_entry_of c i).tag

-- "and free it where" that is so, and only there: the n-th page goes with all further out, by a resize to n pages
pub record FreesWhere (c : List ℕ) (r : Region) (n : ℕ) : Type 0 where
  pub may : NoneBelow c r n → shrink_check c r n ≡ Ok tt
  pub only : shrink_check c r n ≡ Ok tt → NoneBelow c r n
