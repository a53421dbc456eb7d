-- The tests of begin, call and return in order: what is decided where one fails, and where all pass. The check applies these by itself.
-- Assumes nothing.
use Rattle.std.proofs.Common.{ℕ, ◌≤◌, ◌<◌, ◌≡◌, ◌≢◌, true, false, List, length, ◌∙◌, le-leb, lt-ltb, le-ltb, eq-eqb, ne_eqb}
use borrow.Author.Tests.{lt-leb}
use Rattle.layout.specs.Control.{table_at, live_limit, registers_size}
use Rattle.choice.proofs.Tests.{both_intro}
use Rattle.refusal.specs.Checks.{need, ◌then◌}
use Rattle.refusal.specs.declared.Refusal.{Refusal}
use Rattle.refusal.specs.declared.Refusal.TheVariants.{Invalid, BadRequest, NoFrame, DepthLimit}
use Rattle.refusal.proofs.Checks.{need_on, need_stop, need_last, need_refused}
use Rattle.snapshot.specs.Header.{snapshot_valid}
use Rattle.snapshot.specs.declared.accounts.Account.{Account}
use Rattle.control.specs.Control.{buffers_valid, edition_known, invocations}
use Rattle.control.proofs.Facts.{buffers_facts, control_facts}
use Rattle.invoke.specs.Invoke.{frames_in, room_valid, program_check, start_check, fresh, begin_check, begin_control, begin_pool, call_check, return_check}
use Rattle.invoke.specs.declared.begin.Start.{Start}
use Rattle.invoke.proofs.Begun.{begin_none}
use Rattle.std.specs.Prelude.{Err, Ok}

-- ---- begin

module _ (s : List ℕ) (f : ℕ) (x : Start) where
  -- more than one page is asked
  pub too_many : 1 < x.pages → start_check s f x ≡ Err BadRequest
  unfolding start_check need ◌then◌
  too_many h = rw (lt-leb _ _ h)

  module _ (few : x.pages ≤ 1) where
    -- no such edition
    pub no_edition : edition_known x.edition ≡ false → start_check s f x ≡ Err BadRequest
    unfolding start_check need ◌then◌
    no_edition h = rw (le-leb _ _ few, h)

    module _ (known : edition_known x.edition ≡ true) where
      -- the program cannot be run
      pub no_program : (r : Refusal) → program_check s x.program ≡ Err r → start_check s f x ≡ Err r
      unfolding start_check need ◌then◌
      no_program r h = rw (le-leb _ _ few, known, h)

      module _ (runs : program_check s x.program ≡ Ok tt) where
        -- there is no frame for a page
        pub no_frame : f < x.pages → start_check s f x ≡ Err NoFrame
        unfolding start_check need ◌then◌
        no_frame l = rw (le-leb _ _ few, known, runs, lt-leb _ _ l)

        -- there is one for each
        pub ready : x.pages ≤ f → start_check s f x ≡ Ok tt
        unfolding start_check need ◌then◌
        ready l = rw (le-leb _ _ few, known, runs, le-leb _ _ l)

-- the tests of what is asked
pub ruleset start_tests = (too_many, no_edition, no_program, no_frame, ready)

module _ (s : List ℕ) (control pool : ℕ) (x : Start) where
  -- the snapshot is not valid
  pub no_snapshot : snapshot_valid s ≡ false → begin_check s control pool x ≡ Err Invalid
  unfolding begin_check
  no_snapshot h = need_stop _ _ _ (rw h)

  module _ (valid : snapshot_valid s ≡ true) where
    -- the lengths are not those of one frame count
    pub no_room : room_valid control pool ≡ false → begin_check s control pool x ≡ Err Invalid
    unfolding begin_check
    no_room h = need_stop _ _ _ (rw (valid, h))

    -- they are: what is asked decides
    pub start_decides : room_valid control pool ≡ true → begin_check s control pool x ≡ start_check s (frames_in control) x
    unfolding begin_check
    start_decides h = need_on _ _ _ (both_intro _ _ valid h)

-- the tests of begin
pub ruleset begin_tests = (no_snapshot, no_room, start_decides)

module _ (s c p : List ℕ) (x : Start) (e : begin_check s (length c) (length p) x ≡ Ok tt) where
  module _ (none : x.pages ≡ 0) where
    -- with no page the control block stays fresh
    pub control_bare : begin_control s c p x ≡ fresh (length c) x
    control_bare = (begin_none s c p x e none).control

    -- and the pool as it was
    pub pool_kept : begin_pool s c p x ≡ p
    pool_kept = (begin_none s c p x e none).pool

-- ---- call and return

module _ (s c p : List ℕ) where
  -- what valid buffers have shown
  pub valid_snapshot : buffers_valid s c p ≡ true → snapshot_valid s ≡ true
  valid_snapshot h = (buffers_facts s c p h).snapshot

  pub valid_header : buffers_valid s c p ≡ true → table_at ≤ length c
  valid_header h = (control_facts c (buffers_facts s c p h).control).header

  module _ (a : Account) (size : ℕ) where
    -- the buffers of a call are not
    pub call_invalid : buffers_valid s c p ≡ false → call_check s c p a size ≡ Err Invalid
    unfolding call_check
    call_invalid h = need_stop _ _ _ h

    module _ (v : buffers_valid s c p ≡ true) where
      -- the registers have another length
      pub call_other_size : size ≢ registers_size → call_check s c p a size ≡ Err BadRequest
      unfolding call_check
      call_other_size h = need_on _ _ _ v ∙ need_stop _ _ _ (ne_eqb _ _ h)

      module _ (e : size ≡ registers_size) where
        -- no further invocation can be live
        pub call_deepest : live_limit ≤ invocations c → call_check s c p a size ≡ Err DepthLimit
        unfolding call_check
        call_deepest h = need_on _ _ _ v ∙ need_on _ _ _ (eq-eqb _ _ e) ∙ need_stop _ _ _ (le-ltb _ _ h)

        -- one can: the program decides
        pub program_decides : invocations c < live_limit → call_check s c p a size ≡ program_check s a
        unfolding call_check
        program_decides h = need_on _ _ _ v ∙ need_on _ _ _ (eq-eqb _ _ e) ∙ need_on _ _ _ (lt-ltb _ _ h)

  module _ (size : ℕ) where
    -- the buffers of a return are not valid
    pub return_invalid : buffers_valid s c p ≡ false → return_check s c p size ≡ Err Invalid
    unfolding return_check
    return_invalid h = need_stop _ _ _ h

    module _ (v : buffers_valid s c p ≡ true) where
      -- the registers have another length
      pub return_other_size : size ≢ registers_size → return_check s c p size ≡ Err BadRequest
      unfolding return_check
      return_other_size h = need_on _ _ _ v ∙ need_stop _ _ _ (ne_eqb _ _ h)

      module _ (e : size ≡ registers_size) where
        -- the invocation is the first
        pub return_first : invocations c ≤ 1 → return_check s c p size ≡ Err DepthLimit
        unfolding return_check
        return_first h = need_on _ _ _ v ∙ need_on _ _ _ (eq-eqb _ _ e) ∙ need_refused _ _ (le-ltb _ _ h)

        -- it was called
        pub return_passes : 1 < invocations c → return_check s c p size ≡ Ok tt
        unfolding return_check
        return_passes h = need_on _ _ _ v ∙ need_on _ _ _ (eq-eqb _ _ e) ∙ need_last _ _ (lt-ltb _ _ h)

-- the tests of a call
pub ruleset call_tests = (valid_snapshot, valid_header, call_invalid, call_other_size, call_deepest, program_decides)

-- the tests of a return
pub ruleset return_tests = (valid_header, return_invalid, return_other_size, return_first, return_passes)
