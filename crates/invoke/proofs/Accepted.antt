-- The facts by name behind a program that can be run, and behind a begin, a call and a return that are accepted: each test of the chain passed.
-- Assumes nothing.
use Rattle.std.proofs.Common.{ℕ, ◌≤◌, ◌<◌, ◌≡◌, true, List, arith, leb-true, eqb-true, ltb-true}
use Rattle.layout.specs.Page.{pool_length}
use Rattle.layout.specs.Control.{table_at, frame_limit, live_limit, registers_size, control_length}
use Rattle.choice.proofs.Tests.{both_true}
use Rattle.refusal.proofs.Checks.{need_then, need_pass, then_pass}
use Rattle.snapshot.specs.Header.{accounts, snapshot_valid}
use Rattle.snapshot.specs.declared.accounts.Account.{Account}
use Rattle.snapshot.proofs.Facts.{SnapshotFacts, snapshot_facts}
use Rattle.snapshot.proofs.Told.{account_facts}
use Rattle.control.specs.Control.{invocations, edition_known}
use Rattle.control.proofs.Facts.{ControlFacts, BuffersFacts, control_facts, buffers_facts}
use Rattle.invoke.specs.Invoke.{program_check, frames_in, room_valid, start_check, begin_check, call_check, return_check}
use Rattle.invoke.specs.declared.begin.Start.{Start}
use Rattle.std.specs.Prelude.{Ok}

-- ---- the program

module _ (s : List ℕ) (a : Account) (e : program_check s a ≡ Ok tt) where
  -- it is below the account count
  pub program_known : a.0 < accounts s
  unfolding program_check
  program_known = ltb-true _ _ (account_facts s a (then_pass _ _ e).0).0

  -- its number fits two bytes
  pub program_fits : snapshot_valid s ≡ true → a.0 < 65536
  program_fits v = let f : SnapshotFacts s = snapshot_facts s v in omega (arith, program_known)

-- ---- begin

-- what the lengths of control block and pool keep
pub record RoomFacts (control pool : ℕ) : Type 0 where
  pub header : table_at ≤ control
  pub few_frames : frames_in control ≤ frame_limit
  pub control_size : control ≡ control_length (frames_in control)
  pub pool_size : pool ≡ pool_length (frames_in control)

pub room_facts : (control pool : ℕ) → room_valid control pool ≡ true → RoomFacts control pool
unfolding room_valid
room_facts control pool e =
    let t₁ = both_true _ _ e in
    let t₂ = both_true _ _ t₁.1 in
    let t₃ = both_true _ _ t₂.1 in
    record {
      header = leb-true _ _ t₁.0;
      few_frames = leb-true _ _ t₂.0;
      control_size = eqb-true _ _ t₃.0;
      pool_size = eqb-true _ _ t₃.1;
    }

-- what an accepted begin has shown
pub record BeginFacts (s : List ℕ) (control pool : ℕ) (x : Start) : Type 0 where
  pub snapshot : snapshot_valid s ≡ true
  pub room : room_valid control pool ≡ true
  pub few_pages : x.pages ≤ 1
  pub edition : edition_known x.edition ≡ true
  pub program : program_check s x.program ≡ Ok tt
  pub free : x.pages ≤ frames_in control

pub begin_facts : (s : List ℕ) (control pool : ℕ) (x : Start) → begin_check s control pool x ≡ Ok tt → BeginFacts s control pool x
unfolding begin_check start_check
begin_facts s control pool x e =
    let t₁ = need_then _ _ _ e in
    let t₂ = need_then _ _ _ t₁.1 in
    let t₃ = then_pass _ _ t₂.1 in
    let b = both_true _ _ t₁.0 in
    let a = both_true _ _ t₂.0 in
    record {
      snapshot = b.0;
      room = b.1;
      few_pages = leb-true _ _ a.0;
      edition = a.1;
      program = t₃.0;
      free = leb-true _ _ (need_pass _ _ t₃.1);
    }

-- what of it a fresh control block can hold and read back
pub record StartFits (x : Start) : Type 0 where
  pub program : x.program.0 < 65536
  pub edition : edition_known x.edition ≡ true

pub begin_fits : {s : List ℕ} {control pool : ℕ} {x : Start} → BeginFacts s control pool x → StartFits x
begin_fits {s} {x = x} f = record { program = program_fits s x.program f.program f.snapshot; edition = f.edition }

-- ---- call and return

module _ (s c p : List ℕ) where
  -- what an accepted call has shown
  pub record CallFacts (a : Account) (size : ℕ) : Type 0 where
    pub buffers : BuffersFacts s c p
    pub control : ControlFacts c
    pub registers : size ≡ registers_size
    pub below : invocations c < live_limit
    pub program : program_check s a ≡ Ok tt

  pub call_facts : (a : Account) (size : ℕ) → call_check s c p a size ≡ Ok tt → CallFacts a size
  unfolding call_check
  call_facts a size e =
      let t₁ = need_then _ _ _ e in
      let t₂ = need_then _ _ _ t₁.1 in
      let t₃ = need_then _ _ _ t₂.1 in
      let b = buffers_facts s c p t₁.0 in
      record {
        buffers = b;
        control = control_facts c b.control;
        registers = eqb-true _ _ t₂.0;
        below = ltb-true _ _ t₃.0;
        program = t₃.1;
      }

  -- what an accepted return has shown
  pub record ReturnFacts (size : ℕ) : Type 0 where
    pub buffers : BuffersFacts s c p
    pub control : ControlFacts c
    pub registers : size ≡ registers_size
    pub above : 1 < invocations c

  pub return_facts : (size : ℕ) → return_check s c p size ≡ Ok tt → ReturnFacts size
  unfolding return_check
  return_facts size e =
      let t₁ = need_then _ _ _ e in
      let t₂ = need_then _ _ _ t₁.1 in
      let b = buffers_facts s c p t₁.0 in
      record {
        buffers = b;
        control = control_facts c b.control;
        registers = eqb-true _ _ t₂.0;
        above = ltb-true _ _ (need_pass _ _ t₂.1);
      }
