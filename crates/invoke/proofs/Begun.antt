-- The stack of a program that begins: a fresh control block has no pages and every frame free, so resizing its stack to no page leaves all as
-- it is, and to one page takes frame 0. Assumes nothing.
use Rattle.std.proofs.Common.{ℕ, ◌-◌, ◌≤◌, ◌≡◌, ap, ◌∙◌, true, List, arith, length, le-leb}
use Rattle.std.proofs.Math.Decide.{ℕ_discrete}
use Rattle.layout.specs.Page.{page_size}
use Rattle.words.specs.Words.{splice, zeros}
use Rattle.choice.proofs.Counting.{count_hit, count_grows}
use Rattle.refusal.proofs.Checks.{need_last}
use Rattle.control.specs.Control.{frames, invocations, set_pages, size_of}
use Rattle.control.specs.declared.shadow.Region.TheVariants.{Stack}
use Rattle.frames.specs.Table.{is_free, free_frame, free_count, put_frame_entry}
use Rattle.frames.specs.declared.claim.End.TheVariants.{Lowest}
use Rattle.frames.proofs.Found.{first_at}
use Rattle.frames.proofs.OnlyTable.{table_put, table_invocations}
use Rattle.regions.specs.Resize.{Resized, grow_one, grown, grow_check, grow_to, resize_to}
use Rattle.invoke.specs.Invoke.{frames_in, room_valid, begin_check, fresh, begun, begin_control, begin_pool}
use Rattle.invoke.specs.Begun.{NoPage, OnePage, stack_entry}
use Rattle.invoke.specs.declared.begin.Start.{Start}
use Rattle.invoke.proofs.Accepted.{BeginFacts, begin_facts, StartFits, begin_fits}
use Rattle.invoke.proofs.Fresh.{fresh-frames, fresh-invocations, fresh_size, fresh_free}
use Rattle.std.specs.Prelude.{Ok, Some}

module _ (size : ℕ) (p : List ℕ) (x : Start) (valid : room_valid size (length p) ≡ true) (fits : StartFits x) where
  -- the control block before its stack is resized
  abbrev bare : List ℕ
  bare = fresh size x

  -- it has no stack
  no_stack : size_of bare Stack ≡ 0
  no_stack = fresh_size size (length p) x valid fits Stack

  -- its frames are as many as there is room for
  room : frames bare ≡ frames_in size
  room = fresh-frames size (length p) x valid fits

  -- each of them is free
  free : (i : ℕ) → is_free bare i ≡ true
  free = fresh_free size (length p) x valid fits

  module _ (some : 1 ≤ frames_in size) where
    -- so the first is found
    first_free : free_frame Lowest bare ≡ Some (record { 0 = 0 })
    unfolding free_frame
    first_free =
        first_at (is_free bare) (frames bare) 0 (record { below = omega (arith, room); passes = free 0; before = λ j l. absurd (omega arith) })

    -- and one at least is counted
    some_free : 1 ≤ free_count bare
    unfolding free_count
    some_free = omega (arith, room, count_hit (is_free bare) 0 (free 0), count_grows (is_free bare) 1 (frames bare) (omega (arith, room)))

    -- there is a frame for one page
    pub one_grows : grow_check bare Stack 1 ≡ Ok tt
    unfolding grow_check
    one_grows = need_last _ _ (le-leb (1 - size_of bare Stack) (free_count bare) (omega (arith, no_stack, some_free)))

  -- the control block with that page
  abbrev paged : List ℕ
  paged = put_frame_entry bare 0 stack_entry

  -- which leaves the live invocations as they were
  paged_live : invocations paged ≡ 1
  paged_live = table_invocations (table_put bare 0 stack_entry) ∙ fresh-invocations size (length p) x valid fits

  -- resized to no page
  none : resize_to bare p Stack 0 ≡ record { answer = Ok tt; after = record { control = bare; pool = p } }
  unfolding resize_to
  none = rw no_stack

  -- resized to one
  one : 1 ≤ frames_in size
      → resize_to bare p Stack 1
      ≡ record { answer = Ok tt; after = record { control = set_pages paged 1 Stack 1; pool = splice p 0 (zeros page_size) } }
  unfolding resize_to grow_to grown grow_one
  one some = rw (no_stack, one_grows some, first_free some, fresh-invocations size (length p) x valid fits, paged_live)

  -- the same of the pages that a begin is given
  to_none : x.pages ≡ 0 → resize_to bare p Stack x.pages ≡ record { answer = Ok tt; after = record { control = bare; pool = p } }
  to_none z = ap (λ (n : ℕ). resize_to bare p Stack n) z ∙ none

  to_one : x.pages ≡ 1 → x.pages ≤ frames_in size
      → resize_to bare p Stack x.pages
      ≡ record { answer = Ok tt; after = record { control = set_pages paged 1 Stack 1; pool = splice p 0 (zeros page_size) } }
  to_one z some = ap (λ (n : ℕ). resize_to bare p Stack n) z ∙ one (omega arith)

-- ---- an accepted begin

module _ (s c p : List ℕ) (x : Start) (e : begin_check s (length c) (length p) x ≡ Ok tt) where
  -- what the check has shown
  facts : BeginFacts s (length c) (length p) x
  facts = begin_facts s (length c) (length p) x e

  -- what is asked fits a fresh control block
  pub start_fits : StartFits x
  start_fits = begin_fits facts

  -- its stack can be resized
  pub begun_passes : (resize_to (fresh (length c) x) p Stack x.pages).answer ≡ Ok tt
  begun_passes =
      elim (ℕ_discrete x.pages 0) [
        | yes z ↦ rw (to_none (length c) p x facts.room start_fits z)
        | no z ↦ rw (to_one (length c) p x facts.room start_fits (omega (arith, facts.few_pages)) facts.free)
      ]

  -- with no page that is all
  pub begin_none : x.pages ≡ 0 → NoPage s c p x
  unfolding begin_control begin_pool begun
  begin_none z =
      let o = to_none (length c) p x facts.room start_fits z in
      record { control = rw e (ap (λ (r : Resized). r.after.control) o); pool = rw e (ap (λ (r : Resized). r.after.pool) o) }

  -- with one it takes frame 0
  pub begin_one : x.pages ≡ 1 → OnePage s c p x
  unfolding begin_control begin_pool begun
  begin_one z =
      let o = to_one (length c) p x facts.room start_fits z facts.free in
      record { control = rw e (ap (λ (r : Resized). r.after.control) o); pool = rw e (ap (λ (r : Resized). r.after.pool) o) }
