-- One invocation more after a call, one less after a return: each writes one record and the number of live invocations. Before that a return frees
-- frames and hands its heap over. Assumes nothing.
use Rattle.std.proofs.Common.{ℕ, ◌+◌, ◌-◌, ◌≤◌, ◌<◌, ◌≡◌, ap, ◌∙◌, true, ◌≢◌, List, arith, length}
use Rattle.layout.specs.Control.{live_limit, registers_size}
use Rattle.words.specs.Words.{word_bytes}
use Rattle.words.proofs.Word.{length-word_bytes}
use Rattle.snapshot.specs.declared.accounts.Account.{Account}
use Rattle.control.specs.Control.{frames, invocations, depth, set_invocations, record_at, region_at, invocation_of, current, set_pages, control_valid, current_valid}
use Rattle.control.specs.declared.shadow.Invocation.{Invocation}
use Rattle.control.specs.declared.shadow.Region.TheVariants.{Heap}
use Rattle.control.proofs.Facts.{ControlFacts, CurrentFacts, control_facts, current_facts}
use Rattle.control.proofs.Live.{live-frames, live_word, live_invocation, live_same, live_valid}
use Rattle.control.proofs.Records.{OnlyRecord, invocation_other, header_kept, record_valid, table_kept, put_only, invocation_same, clear_only, pages_only, with_pages, pages_set}
use Rattle.pages.specs.declared.Page.{Page}
use Rattle.frames.specs.Table.{frame_entry_at, frame_field, frame_entry_of, holds, claims}
use Rattle.frames.specs.declared.claim.Claim.TheVariants.{Copy}
use Rattle.frames.proofs.OnlyTable.{OnlyTable, table_frames, table_invocation, table_valid}
use Rattle.frames.proofs.Untouched.{entry_above}
use Rattle.invoke.specs.Invoke.{called, freed_below, hand_over, returned}
use Rattle.invoke.proofs.Freed.{afterwards, freed_only, freed_entry, freed_copy}

-- ---- record k and the number of live invocations written

-- what c' is to c
record Moved (k d : ℕ) (c c' : List ℕ) : Type 0 where
  count : frames c' ≡ frames c
  live : invocations c' ≡ d
  valid : control_valid c' ≡ true
  invocation : (j : ℕ) → j ≢ k → invocation_of c' j ≡ invocation_of c j
  entry : (i : ℕ) → frame_entry_of c' i ≡ frame_entry_of c i

module _ (k d : ℕ) (c : List ℕ) {c₁ : List ℕ} (o : OnlyRecord k c c₁) (l : k ≤ live_limit) where
  -- a field of an entry stays
  field_moved : (w f i : ℕ) → frame_field w f (set_invocations c₁ d) i ≡ frame_field w f c i
  unfolding frame_field
  field_moved w f i = live_word c₁ d w (frame_entry_at i + f) (omega arith) ∙ table_kept k o l w (frame_entry_at i + f) (omega arith)

  -- c₁ with the number written
  moved : 1 ≤ d → d ≤ live_limit → control_valid c ≡ true → Moved k d c (set_invocations c₁ d)
  moved some few v =
      let g : ControlFacts c = control_facts c v in
      record {
        count = live-frames c₁ d ∙ header_kept k o 4 0 (omega arith);
        live = live_same c₁ d (omega arith) (omega (arith, o.size));
        valid = live_valid c₁ d some few (record_valid k o ∙ v);
        invocation = λ j h. live_invocation c₁ d j ∙ invocation_other k o j h;
        entry = λ i. rw (field_moved 1 0 i, field_moved 1 1 i, field_moved 2 2 i, field_moved 2 4 i, field_moved 2 6 i);
      }

-- ---- a call

-- what the program that is called has
abbrev pub callee : List ℕ → Account → Invocation
callee c a = record { program = a; stack = (current c).stack; heap = (current c).heap }

module _ (c : List ℕ) (a : Account) (registers : List ℕ) (valid : control_valid c ≡ true) (below : invocations c < live_limit)
    (long : length registers ≡ registers_size) where
  -- where it writes
  call_moves : Moved (invocations c + 1) (invocations c + 1) c (called c a registers)
  unfolding called
  call_moves =
      moved (invocations c + 1) (invocations c + 1) c (put_only c (invocations c + 1) (callee c a) registers long)
      (omega arith) (omega arith) (omega arith) valid

  -- the frame count stays
  pub called-frames : frames (called c a registers) ≡ frames c
  called-frames = call_moves.count

  -- one invocation more is live
  pub called-invocations : invocations (called c a registers) ≡ invocations c + 1
  called-invocations = call_moves.live

  -- the control block stays valid
  pub called_valid : control_valid (called c a registers) ≡ true
  called_valid = call_moves.valid

  -- every entry stays
  pub called_entry : (i : ℕ) → frame_entry_of (called c a registers) i ≡ frame_entry_of c i
  called_entry i = call_moves.entry i

  -- every record of a live invocation stays: its program and sizes
  pub called_invocation : (j : ℕ) → j ≤ invocations c → invocation_of (called c a registers) j ≡ invocation_of c j
  called_invocation j h = call_moves.invocation j (omega arith)

  -- the new record has the program and the caller's sizes
  pub called_new : (n : ℕ) → current_valid c n ≡ true → a.0 < 65536 → invocation_of (called c a registers) (invocations c + 1) ≡ callee c a
  unfolding called
  called_new n v fits =
      let g : ControlFacts c = control_facts c valid in
      let f : CurrentFacts c n = current_facts c n v in
      live_invocation _ _ (invocations c + 1)
      ∙ invocation_same c (invocations c + 1) (callee c a) registers (omega arith) g.header fits (omega arith) (omega arith)

-- ---- a return

-- the frames of the invocation that returns, freed
abbrev left : List ℕ → List ℕ
left c = freed_below (depth c) c (frames c)

-- and its heap handed over
abbrev handed : List ℕ → List ℕ
handed c = hand_over c (left c)

-- what the caller has then: its own program and stack, and the heap of the invocation that returned
abbrev pub caller : List ℕ → Invocation
caller c =
    record {
      program = (invocation_of c (invocations c - 1)).program;
      stack = (invocation_of c (invocations c - 1)).stack;
      heap = (current c).heap;
    }

module _ (c : List ℕ) (valid : control_valid c ≡ true) (above : 1 < invocations c) where
  -- the header, by name
  facts : ControlFacts c
  facts = control_facts c valid

  -- the freed frames
  emptied : OnlyTable c (left c)
  emptied = freed_only (depth c) c (frames c)

  -- the heap is written in the caller's record
  handed_only : OnlyRecord (invocations c - 1) (left c) (handed c)
  unfolding hand_over
  handed_only = pages_only (left c) (invocations c - 1) Heap (current c).heap

  -- so no entry changes
  handed_entry : (i : ℕ) → frame_entry_of (handed c) i ≡ frame_entry_of (left c) i
  unfolding hand_over set_pages
  handed_entry i =
      entry_above (left c) (record_at (invocations c - 1) + region_at Heap) (word_bytes 2 (current c).heap)
      (omega (arith, facts.few_live, length-word_bytes 2 (current c).heap)) i

  -- where it writes behind that
  return_moves : Moved (invocations c) (invocations c - 1) (handed c) (returned c)
  unfolding returned
  return_moves =
      let g : ControlFacts c = facts in
      moved (invocations c) (invocations c - 1) (handed c) (clear_only (handed c) (invocations c)) (omega arith) (omega arith)
      (omega arith) (record_valid (invocations c - 1) handed_only ∙ table_valid emptied ∙ valid)

  -- the frame count stays
  pub returned-frames : frames (returned c) ≡ frames c
  returned-frames = return_moves.count ∙ header_kept (invocations c - 1) handed_only 4 0 (omega arith) ∙ table_frames emptied

  -- one invocation less is live
  pub returned-invocations : invocations (returned c) ≡ invocations c - 1
  returned-invocations = return_moves.live

  -- the control block stays valid
  pub returned_valid : control_valid (returned c) ≡ true
  returned_valid = return_moves.valid

  -- an entry is zeros where it leaves, else as it was
  pub returned_entry : (i : ℕ) → i < frames c → frame_entry_of (returned c) i ≡ afterwards (depth c) (frame_entry_of c i)
  returned_entry i h = return_moves.entry i ∙ handed_entry i ∙ freed_entry (depth c) c (frames c) i h (omega (arith, facts.size))

  -- every copy keeps its frame
  pub returned_copy : (a : Account) (p : Page) (i : ℕ) → claims (returned c) (Copy a p) i ≡ claims c (Copy a p) i
  unfolding claims
  returned_copy a p i =
      ap (holds (Copy a p)) (return_moves.entry i ∙ handed_entry i)
      ∙ freed_copy (depth c) c (frames c) a p i (omega (arith, facts.size))

  -- every record below the caller's stays: its program and sizes
  pub returned_invocation : (j : ℕ) → j < invocations c - 1 → invocation_of (returned c) j ≡ invocation_of c j
  returned_invocation j h =
      return_moves.invocation j (omega arith) ∙ invocation_other (invocations c - 1) handed_only j (omega arith)
      ∙ table_invocation emptied j (omega (arith, facts.few_live))

  -- the caller's has the heap of the invocation that returned
  pub returned_caller : (n : ℕ) → current_valid c n ≡ true → invocation_of (returned c) (invocations c - 1) ≡ caller c
  unfolding hand_over
  returned_caller n v =
      let g : ControlFacts c = facts in
      let f : CurrentFacts c n = current_facts c n v in
      let k : ℕ = invocations c - 1 in
      let was : invocation_of (left c) k ≡ invocation_of c k = table_invocation emptied k (omega arith) in
      return_moves.invocation k (omega arith)
      ∙ pages_set (left c) k Heap (current c).heap (omega arith) (omega (arith, emptied.size)) (omega arith)
      ∙ ap (λ (x : Invocation). with_pages x Heap (current c).heap) was
