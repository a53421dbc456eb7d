-- A resize keeps the invariant: growing takes and zeroes frames that were free, shrinking frees stack and heap frames, and then one size of
-- record D is written. Assumes nothing.
use Prim.Native.Nat.{ℕ, ◌+◌, ◌*◌, ◌-◌, ◌≤◌, ◌<◌}
use mathlib.Core.Path.{◌≡◌, refl, sym, ap, ◌∙◌}
use mathlib.Core.Bool.{true, false}
use mathlib.Core.Logic.{◌≢◌, ⊎_elim}
use mathlib.Core.List.{List}
use native.Mathlib.Decide.{ℕ_discrete}
use native.Mathlib.Omega.{arith}
use lib.ListN.{get_or, length}
use lib.Dec.{ltb}
use borrow.Author.Tests.{ltb-true, leb-true}
use Rattle.layout.specs.Page.{page_size, page_limit}
use Rattle.layout.specs.Control.{table_at, heap_at, live_limit}
use Rattle.words.specs.Words.{word_bytes, bytes_at}
use Rattle.words.proofs.Word.{length-word_bytes}
use Rattle.words.proofs.Run.{get_or-bytes_at}
use Rattle.choice.proofs.Tests.{by_test, differ, fails}
use Rattle.refusal.proofs.Checks.{need_then, need_pass, by_check}
use Rattle.control.specs.Control.{frames, invocations, invocation_of, record_at, region_at, set_pages, pages_of, size_of}
use Rattle.control.specs.declared.shadow.Region.{Region}
use Rattle.control.specs.declared.shadow.Region.TheVariants.{Stack, Heap}
use Rattle.control.proofs.Facts.{BuffersFacts, ControlFacts, buffers_facts, control_facts}
use Rattle.control.proofs.Records.{header_kept, record_valid, invocation_other, pages_only, pages_program, pages_other, pages_same}
use Rattle.control.specs.Buffers.{Buffers}
use Rattle.frames.specs.Table.{frame_entry_of, claims, is_free, free_count}
use Rattle.frames.proofs.Entries.{EntryRange, zero_range}
use Rattle.frames.proofs.Untouched.{entry_above, claims_above}
use Rattle.frames.proofs.Claims.{free_claims}
use Rattle.regions.specs.Resize.{page_at, grown, grow_check, grow_to, shrunk, shrink_check, shrink_control, resize_to, resize_check, region_of, resize_of}
use Rattle.regions.proofs.Pages.{page_below, page_range}
use Rattle.regions.proofs.Grown.{grown_only, grown_pool, grown_kept, grown-either, grown_copies}
use Rattle.regions.proofs.Shrunk.{shrunk_only, shrunk_copy, shrunk_copies, shrunk_kept, shrunk_freed, among_or}
use Rattle.hekthumar.specs.Steps.{resize, step_of}
use Rattle.history.specs.Calls.{accepted, effect}
use Rattle.history.specs.Replay.{Replay, replay_effect}
use Rattle.history.proofs.Good.{copy_of, LiveRecord, Good}
use Rattle.history.proofs.Others.{GoodAfter, keep_other, keep_table, record_same, records_valid, replay_stays}

-- a size stands at 2 or 4 of its record
region_at_lem : (q : Region) → region_at q ≤ heap_at
region_at_lem Stack = omega arith
region_at_lem Heap = omega arith

-- the regions are two
heap_stack : Heap ≢ Stack
heap_stack e = let z : ◌≡◌ {A = ℕ} 0 1 = cc in omega arith

-- in either order
stack_heap : Stack ≢ Heap
stack_heap e = let z : ◌≡◌ {A = ℕ} 0 1 = cc in omega arith

module _ (c : List ℕ) (k n : ℕ) (l : k ≤ live_limit) (long : table_at ≤ length c) (few : n ≤ page_limit) where
  -- each size of a record stays within the limit
  pages_few : (q t : Region) → pages_of (invocation_of c k) t ≤ page_limit → pages_of (invocation_of (set_pages c k q n) k) t ≤ page_limit
  pages_few Stack Stack h = omega (arith, pages_same c k Stack n l long (omega arith))
  pages_few Stack Heap h = omega (arith, pages_other c k Stack n Heap heap_stack)
  pages_few Heap Stack h = omega (arith, pages_other c k Heap n Stack stack_heap)
  pages_few Heap Heap h = omega (arith, pages_same c k Heap n l long (omega arith))

  -- so it stays a live one
  record_sized : (s : List ℕ) (q : Region) → LiveRecord s c k → LiveRecord s (set_pages c k q n) k
  record_sized s q h =
      record {
        program = rw (pages_program c k q n) h.program;
        stack = pages_few q Stack h.stack;
        heap = pages_few q Heap h.heap;
      }

-- the bytes of frames that agree
frame_byte : (p p' : List ℕ) (i : ℕ) → bytes_at page_size p' (page_size * i) ≡ bytes_at page_size p (page_size * i)
    → (k : ℕ) → k < page_size → get_or p' (page_size * i + k) 0 ≡ get_or p (page_size * i + k) 0
frame_byte p p' i e k l =
    sym (get_or-bytes_at page_size p' (page_size * i) k l) ∙ ap (λ (x : List ℕ). get_or x k 0) e ∙ get_or-bytes_at page_size p (page_size * i) k l

module _ {s : List ℕ} {r : Replay} {b : Buffers} (g : Good s b r) where
  -- the control block
  abbrev c : List ℕ
  c = b.control

  -- the pool
  abbrev p : List ℕ
  p = b.pool

  -- valid buffers, by name
  facts : BuffersFacts s c p
  facts = buffers_facts s c p g.buffers

  -- and the header
  header : ControlFacts c
  header = control_facts c facts.control

  -- ---- one size written in record D

  module _ (q : Region) (n : ℕ) (few : n ≤ page_limit) where
    -- D
    abbrev d : ℕ
    d = invocations c

    -- it is written below the frame table
    below : record_at d + region_at q + length (word_bytes 2 n) ≤ table_at
    below = omega (arith, header.few_live, region_at_lem q, length-word_bytes 2 n)

    -- each record stays a live one
    sized_record : (k : ℕ) → 1 ≤ k → k ≤ invocations (set_pages c d q n) → LiveRecord s (set_pages c d q n) k
    sized_record k l m =
        let o = pages_only c d q n in
        let v : k ≤ d = omega (arith, header_kept d o 4 4 (omega arith)) in
        elim (ℕ_discrete k d) [
          | yes e ↦ rw e (record_sized c d n header.few_live header.header few s q (rw e at (g.records k l v)))
          | no e ↦ record_same (invocation_other d o k e) (g.records k l v)
        ]

    -- the invariant holds after it
    sized_good : Good s (record { control = set_pages c d q n; pool = p }) r
    unfolding set_pages
    sized_good =
        let o = pages_only c d q n in
        let f : frames (set_pages c d q n) ≡ frames c = header_kept d o 4 0 (omega arith) in
        keep_other g (record { control = set_pages c d q n; pool = p })
        (λ i l. rw (entry_above c _ (word_bytes 2 n) below i) (g.ranged i l))
        (λ a t i l. claims_above c _ (word_bytes 2 n) below i (copy_of a t)) (λ a t i l h. entry_above c _ (word_bytes 2 n) below i)
        (λ a t i l h k m. refl)
        (records_valid s (set_pages c d q n) p facts.snapshot (record_valid d o ∙ facts.control) (rw f facts.pool) sized_record)
        sized_record f r.depth (g.deep.current ∙ sym (header_kept d o 4 4 (omega arith)))

  -- ---- growing

  module _ (q : Region) (k n : ℕ) (few : k + n ≤ page_limit) (free : n ≤ free_count c) where
    -- a frame that a copy claims is not free
    claimed_used : (a t i : ℕ) → claims c (copy_of a t) i ≡ true → is_free c i ≡ false
    claimed_used a t i h = fails (is_free c i) (λ e. differ _ h (free_claims c i e (copy_of a t)))

    -- each entry is as it was, or a page's
    grown_range : (i : ℕ) → i < frames c → EntryRange (frame_entry_of (grown q k c p n).control i)
    grown_range i l =
        ⊎_elim (λ e. rw e.entry (g.ranged i l))
        (λ e.
        let m : (page_at q (k + e.at)).0 < page_limit = page_below q (k + e.at) (omega (arith, e.below)) in
        rw e.holds.entry (page_range _ q _ (omega (arith, header.few_live)) (omega arith)))
        (grown-either q k c p facts.control facts.pool n few free i)

    -- the invariant holds after it
    grown_good : Good s (record { control = (grown q k c p n).control; pool = (grown q k c p n).pool }) r
    grown_good =
        keep_table g (record { control = (grown q k c p n).control; pool = (grown q k c p n).pool }) grown_range
        (λ a t i l. grown_copies q k c p facts.control facts.pool n few free (record { 0 = a }) (record { 0 = t }) i)
        (λ a t i l h. (grown_kept q k c p facts.control n few free i (claimed_used a t i h)).entry)
        (λ a t i l h. frame_byte p _ i (grown_kept q k c p facts.control n few free i (claimed_used a t i h)).bytes)
        (grown_only q k c p n) (grown_pool q k c p n)

  -- ---- shrinking

  module _ (q : Region) (k n : ℕ) where
    -- each entry is as it was, or zeros
    shrunk_range : (i : ℕ) → i < frames c → EntryRange (frame_entry_of (shrunk c q k n) i)
    shrunk_range i l =
        ⊎_elim (λ a. rw (shrunk_freed c q k facts.control n i a) zero_range)
        (λ h. rw (shrunk_kept c q k n i h) (g.ranged i l)) (among_or c q k n i)

    -- the invariant holds after it
    shrunk_good : Good s (record { control = shrunk c q k n; pool = p }) r
    shrunk_good =
        keep_table g (record { control = shrunk c q k n; pool = p }) shrunk_range
        (λ a t i l. shrunk_copies c q k facts.control n (record { 0 = a }) (record { 0 = t }) i)
        (λ a t i l h. shrunk_copy c q k facts.control n (record { 0 = a }) (record { 0 = t }) i h)
        (λ a t i l h m o. refl)
        (shrunk_only c q k n) refl

-- ---- the call

module _ {s : List ℕ} {r : Replay} {b : Buffers} (g : Good s b r) where
  -- the invariant holds after a region is resized to n pages
  pub resized_good : (q : Region) (n : ℕ) → n ≤ page_limit
      → Good s (resize_to b.control b.pool q n).after r
  unfolding resize_to grow_to shrink_control grow_check
  resized_good q n few =
      by_test (ltb (size_of b.control q) n)
      (λ t.
      rw t
      (by_check (grow_check b.control q n)
      (λ e.
      let l : size_of b.control q < n = ltb-true _ _ t in
      rw e (sized_good (grown_good g q (size_of b.control q) (n - size_of b.control q) (omega arith) (leb-true _ _ (need_pass _ _ e))) q n few))
      (λ _ e. rw e g)))
      (λ t.
      rw t
      (by_test (ltb n (size_of b.control q))
      (λ u.
      rw u
      (by_check (shrink_check b.control q n) (λ e. rw e (sized_good (shrunk_good g q n (size_of b.control q - n)) q n few)) (λ _ e. rw e g)))
      (λ u. rw u g)))

  -- a resize keeps the invariant
  pub keep_resize : (region n : ℕ) → GoodAfter s b r (resize region n)
  unfolding step_of resize_of resize_check effect replay_effect
  keep_resize region n =
      replay_stays (resize region n) refl (accepted s b (resize region n))
      (by_check (resize_check s b.control b.pool region n)
      (λ e. rw e (resized_good (region_of region) n (leb-true _ _ (need_pass _ _ (need_then _ _ _ (need_then _ _ _ e).1).1))))
      (λ _ e. rw e g))
