-- The tests of the control block and of the three buffers, as facts by name, and back. Assumes nothing.
use Rattle.std.proofs.Common.{ℕ, ◌≤◌, ◌<◌, ◌≡◌, ap, ◌∙◌, Bool, true, List, length, leb-true, eqb-true, ltb-true, le-leb, eq-eqb, lt-ltb}
use Rattle.layout.specs.Page.{page_limit, pool_length}
use Rattle.layout.specs.Control.{reserved_at, shadow_at, table_at, frame_limit, live_limit, control_length}
use Rattle.words.specs.Words.{word_at}
use Rattle.choice.proofs.Tests.{both_true}
use Rattle.snapshot.specs.Header.{header_of, accounts, snapshot_valid}
use Rattle.snapshot.specs.declared.header.Header.{Header}
use Rattle.control.specs.Control.{frames, invocations, edition, edition_known, current, control_valid, current_valid, control_ready, buffers_valid}

-- ---- the control block

-- what a valid control block keeps
pub record ControlFacts (c : List ℕ) : Type 0 where
  pub header : table_at ≤ length c
  pub few_frames : frames c ≤ frame_limit
  pub some_live : 1 ≤ invocations c
  pub few_live : invocations c ≤ live_limit
  pub shadow_at_is : word_at 4 c 8 ≡ shadow_at
  pub table_at_is : word_at 4 c 12 ≡ table_at
  pub edition : edition_known (edition c) ≡ true
  pub reserved : word_at 4 c reserved_at ≡ 0
  pub size : length c ≡ control_length (frames c)

module _ (c : List ℕ) where
  pub control_facts : control_valid c ≡ true → ControlFacts c
  unfolding control_valid
  control_facts e =
      let t₁ = both_true _ _ e in
      let t₂ = both_true _ _ t₁.1 in
      let t₃ = both_true _ _ t₂.1 in
      let t₄ = both_true _ _ t₃.1 in
      let t₅ = both_true _ _ t₄.1 in
      let t₆ = both_true _ _ t₅.1 in
      let t₇ = both_true _ _ t₆.1 in
      let t₈ = both_true _ _ t₇.1 in
      record {
        header = leb-true _ _ t₁.0;
        few_frames = leb-true _ _ t₂.0;
        some_live = leb-true _ _ t₃.0;
        few_live = leb-true _ _ t₄.0;
        shadow_at_is = eqb-true _ _ t₅.0;
        table_at_is = eqb-true _ _ t₆.0;
        edition = t₇.0;
        reserved = eqb-true _ _ t₈.0;
        size = eqb-true _ _ t₈.1;
      }

  pub control_valid_lem : ControlFacts c → control_valid c ≡ true
  unfolding control_valid
  control_valid_lem f =
      rw (le-leb _ _ f.header, le-leb _ _ f.few_frames, le-leb _ _ f.some_live, le-leb _ _ f.few_live, eq-eqb _ _ f.shadow_at_is, eq-eqb _ _ f.table_at_is, f.edition, eq-eqb _ _ f.reserved, eq-eqb _ _ f.size)

-- ---- the current invocation

-- what a valid current invocation keeps, where there are n accounts
pub record CurrentFacts (c : List ℕ) (n : ℕ) : Type 0 where
  pub program_known : (current c).program.0 < n
  pub few_stack : (current c).stack ≤ page_limit
  pub few_heap : (current c).heap ≤ page_limit

module _ (c : List ℕ) (n : ℕ) where
  pub current_facts : current_valid c n ≡ true → CurrentFacts c n
  unfolding current_valid
  current_facts e =
      let t₁ = both_true _ _ e in
      let t₂ = both_true _ _ t₁.1 in
      record { program_known = ltb-true _ _ t₁.0; few_stack = leb-true _ _ t₂.0; few_heap = leb-true _ _ t₂.1 }

  pub current_valid_lem : CurrentFacts c n → current_valid c n ≡ true
  unfolding current_valid
  current_valid_lem f = rw (lt-ltb _ _ f.program_known, le-leb _ _ f.few_stack, le-leb _ _ f.few_heap)

-- ---- the three buffers

-- what valid buffers keep
pub record BuffersFacts (s c p : List ℕ) : Type 0 where
  pub snapshot : snapshot_valid s ≡ true
  pub control : control_valid c ≡ true
  pub pool : length p ≡ pool_length (frames c)
  pub current : current_valid c (accounts s) ≡ true

module _ (s c p : List ℕ) where
  pub buffers_facts : buffers_valid s c p ≡ true → BuffersFacts s c p
  unfolding buffers_valid control_ready
  buffers_facts e =
      let t₁ = both_true _ _ e in
      let t₂ = both_true _ _ t₁.1 in
      let t₃ = both_true _ _ t₂.1 in
      record { snapshot = t₁.0; control = t₂.0; pool = eqb-true _ _ t₃.0; current = t₃.1 }

  pub buffers_valid_lem : BuffersFacts s c p → buffers_valid s c p ≡ true
  unfolding buffers_valid control_ready
  buffers_valid_lem f = rw (f.snapshot, f.control, eq-eqb _ _ f.pool, f.current)

  -- where the snapshot is valid, its control block and pool decide
  pub ready_decides : {h : Header} {r : Bool} → snapshot_valid s ≡ true → h ≡ header_of s → r ≡ control_ready c p h.accounts
      → r ≡ buffers_valid s c p
  unfolding buffers_valid
  ready_decides es eh er = rw es (er ∙ ap (λ (x : Header). control_ready c p x.accounts) eh)
