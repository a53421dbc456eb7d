-- The laws of free frames: which is handed out next, and how many there are before and after a write. A count of the entries
-- that pass a test, whichever, goes down by one where the entry that is written no longer passes. Assumes nothing.
use Rattle.std.proofs.Common.{◌≡◌, ap, ◌∙◌, Bool, true, false, ◌≢◌, List, ℕ, suc, ◌≤◌, ◌<◌, length, ne_eqb}
use Rattle.choice.specs.Search.{lowest, highest, count}
use Rattle.choice.proofs.Counting.{count_some, count_less}
use Rattle.choice.proofs.Highest.{highest_hits}
use Rattle.control.specs.Control.{frames}
use Rattle.pages.specs.declared.Frame.{Frame}
use Rattle.frames.specs.Table.{entry_end, frame_entry_of, put_frame_entry, is_free, free_frame, free_count}
use Rattle.frames.specs.declared.table.FrameEntry.{FrameEntry}
use Rattle.frames.specs.declared.claim.End.{End}
use Rattle.frames.specs.declared.claim.End.TheVariants.{Lowest, Highest}
use Rattle.frames.proofs.Entries.{EntryRange, entry_other, entry_same}
use Rattle.frames.proofs.Untouched.{frames_kept}
use Rattle.frames.proofs.Claims.{unused}
use Rattle.frames.proofs.Found.{First, lowest_first, at_first, first_at, found_at}
use Rattle.std.specs.Prelude.{Some}

-- ---- the free frame that is handed out next

-- i is a frame that is free
pub record Free (c : List ℕ) (i : ℕ) : Type 0 where
  pub below : i < frames c
  pub passes : is_free c i ≡ true

module _ (c : List ℕ) where
  -- asked for the lowest, the free frame that is found is the first
  pub free_first : (f : Frame) → free_frame Lowest c ≡ Some f → First (is_free c) (frames c) f.0
  unfolding free_frame
  free_first f h = at_first (is_free c) (frames c) f h

  -- a frame that is found is free, by either end
  pub free_found_lem : (e : End) (f : Frame) → free_frame e c ≡ Some f → Free c f.0
  unfolding free_frame
  free_found_lem Lowest f h = let x = free_first f h in record { below = x.below; passes = x.passes }
  free_found_lem Highest f h =
      let x : f.0 ≡ highest (is_free c) (frames c) = (found_at (frames c) (highest (is_free c) (frames c)) f h).0 in
      let l : highest (is_free c) (frames c) < frames c = (found_at (frames c) (highest (is_free c) (frames c)) f h).1 in
      record { below = rw x l; passes = rw x (highest_hits (is_free c) (frames c) l) }

  -- where one is free, the lowest is found
  pub free_some : 1 ≤ free_count c → free_frame Lowest c ≡ Some (record { 0 = lowest (is_free c) (frames c) })
  unfolding free_frame free_count
  free_some h =
      first_at (is_free c) (frames c) (lowest (is_free c) (frames c)) (lowest_first (is_free c) (frames c) (count_some (is_free c) (frames c) h))

-- ---- the entries that pass a test, after a write of entry i

-- how many of the first n entries pass the test
abbrev pub tally : (FrameEntry → Bool) → List ℕ → ℕ → ℕ
tally t c n = count (λ j. t (frame_entry_of c j)) n

module _ (c : List ℕ) (i : ℕ) (e : FrameEntry) (r : EntryRange e) (l : entry_end i ≤ length c) (t : FrameEntry → Bool) (n : ℕ) where
  -- only the old entry passes: one less
  pub tally_lost : i < n → t (frame_entry_of c i) ≡ true → t e ≡ false → suc (tally t (put_frame_entry c i e) n) ≡ tally t c n
  tally_lost h o p =
      count_less (λ j. t (frame_entry_of c j)) (λ j. t (frame_entry_of (put_frame_entry c i e) j)) n i h o
      (ap t (entry_same c i e r l) ∙ p) (λ j m. ap t (entry_other c i e j m))

-- ---- how many frames are free, after a write

module _ (c : List ℕ) (i : ℕ) (e : FrameEntry) (r : EntryRange e) (l : entry_end i ≤ length c) where
  -- a free entry is taken: one less
  pub free_count_taken : i < frames c → is_free c i ≡ true → e.usage ≢ 0 → suc (free_count (put_frame_entry c i e)) ≡ free_count c
  unfolding free_count is_free
  free_count_taken h o p = rw (frames_kept c i e) (tally_lost c i e r l unused (frames c) h o (ne_eqb e.usage 0 p))
