-- The invariant of a history: what holds between the working buffers and the replay after every call from an accepted begin on.
-- Assumes nothing.
use Prim.Native.Nat.{ℕ, suc, ◌+◌, ◌*◌, ◌≤◌, ◌<◌}
use mathlib.Core.Path.{◌≡◌}
use mathlib.Core.Bool.{true, false}
use mathlib.Core.List.{List}
use lib.ListN.{length, get_or}
use Rattle.layout.specs.Page.{page_limit, page_size}
use Rattle.snapshot.specs.Header.{accounts}
use Rattle.snapshot.specs.Accounts.{entry_of, entry_valid, data_length, original}
use Rattle.control.specs.Control.{frames, invocations, invocation_of, buffers_valid}
use Rattle.control.specs.Buffers.{Buffers}
use Rattle.frames.specs.Table.{frame_entry_of, claims}
use Rattle.frames.specs.declared.claim.Claim.{Claim}
use Rattle.frames.specs.declared.claim.Claim.TheVariants.{Copy}
use Rattle.frames.proofs.Entries.{EntryRange}
use Rattle.changes.specs.Keys.{key_of, key_limit, is_copied}
use Rattle.history.specs.Replay.{Replay}

-- the claim of page p of account a
abbrev pub copy_of : ℕ → ℕ → Claim
copy_of a p = Copy (record { 0 = a }) (record { 0 = p })

-- what a live invocation's record keeps
pub record LiveRecord (s c : List ℕ) (k : ℕ) : Type 0 where
  pub program : (invocation_of c k).program.0 < accounts s
  pub stack : (invocation_of c k).stack ≤ page_limit
  pub heap : (invocation_of c k).heap ≤ page_limit

-- a page that a copy claims: it is in a valid account below A, and has live bytes
pub record LivePage (s : List ℕ) (a p : ℕ) : Type 0 where
  pub known : a < accounts s
  pub entry : entry_valid s (record { 0 = a }) ≡ true
  pub present : page_size * p < data_length (entry_of s (record { 0 = a }))

-- the depths that the replay keeps are those of the control block: the current one, and of each copy that at the first store to its page
pub record Deep (c : List ℕ) (r : Replay) : Type 0 where
  pub current : suc r.depth ≡ invocations c
  pub taken : (a p i : ℕ) → i < frames c → claims c (copy_of a p) i ≡ true → (frame_entry_of c i).depth ≡ r.first (key_of a p)

pub record Good (s : List ℕ) (b : Buffers) (r : Replay) : Type 0 where
  -- headers, lengths and record D
  pub buffers : buffers_valid s b.control b.pool ≡ true
  -- every live record is one that a return may come back to
  pub records : (k : ℕ) → 1 ≤ k → k ≤ invocations b.control → LiveRecord s b.control k
  -- every entry's fields fit their widths
  pub ranged : (i : ℕ) → i < frames b.control → EntryRange (frame_entry_of b.control i)
  -- each plain copy is as long as the original
  pub sized : (a : ℕ) → length (r.plain a) ≡ length (original s (record { 0 = a }))
  -- a page is touched where a copy claims it
  pub claimed : (k : ℕ) → k < key_limit → r.touched k ≡ is_copied b.control k
  -- no page is claimed twice
  pub once : (a p i j : ℕ) → i < frames b.control → j < frames b.control → claims b.control (copy_of a p) i ≡ true
      → claims b.control (copy_of a p) j ≡ true
      → i ≡ j
  -- every claimed page has live bytes in a valid account
  pub live : (a p i : ℕ) → i < frames b.control → claims b.control (copy_of a p) i ≡ true → LivePage s a p
  -- a page that has a frame is there as the plain copy, with zeros behind its end
  pub held : (a p i : ℕ) → i < frames b.control → claims b.control (copy_of a p) i ≡ true → (k : ℕ) → k < page_size
      → get_or b.pool (page_size * i + k) 0 ≡ get_or (r.plain a) (page_size * p + k) 0
  -- a page that has none is as the original
  pub kept : (a p : ℕ) → a < 65536 → p < 65536 → r.touched (key_of a p) ≡ false → (k : ℕ) → k < page_size
      → get_or (r.plain a) (page_size * p + k) 0 ≡ get_or (original s (record { 0 = a })) (page_size * p + k) 0
  -- the depths are the replay's
  pub deep : Deep b.control r
