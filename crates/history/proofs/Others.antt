-- A call that changes no copy and no frame of a copy keeps the invariant: one law for all of them, one for those that write only the frame
-- table, and one for those that write nothing. Assumes nothing.
use Prim.Native.Nat.{ℕ, suc, ◌+◌, ◌*◌, ◌/◌, ◌%◌, ◌≤◌, ◌<◌}
use mathlib.Core.Path.{◌≡◌, sym, ap, ◌∙◌}
use mathlib.Core.Bool.{Bool, true, false}
use mathlib.Core.List.{List}
use native.Mathlib.Omega.{arith}
use lib.ListN.{get_or, length}
use Rattle.layout.specs.Page.{pool_length, page_size}
use Rattle.snapshot.specs.Header.{snapshot_valid}
use Rattle.control.specs.Control.{frames, invocations, invocation_of, control_valid, buffers_valid}
use Rattle.control.proofs.Facts.{ControlFacts, buffers_facts, control_facts, buffers_valid_lem, current_valid_lem}
use Rattle.control.proofs.Kept.{buffers_kept}
use Rattle.control.specs.Buffers.{Buffers}
use Rattle.frames.specs.Table.{frame_entry_of, claims, is_found}
use Rattle.frames.specs.declared.table.FrameEntry.{FrameEntry}
use Rattle.frames.proofs.Entries.{EntryRange}
use Rattle.frames.proofs.Claims.{frame_ext}
use Rattle.frames.proofs.OnlyTable.{OnlyTable, table_frames, table_invocations, table_invocation}
use Rattle.changes.specs.Keys.{key_claim, is_copied}
use Rattle.hekthumar.specs.Steps.{Call, step_of}
use Rattle.history.specs.Calls.{accepted, effect}
use Rattle.history.specs.Replay.{Replay, at_depth, replay_effect, replay_step}
use Rattle.history.proofs.Good.{copy_of, LiveRecord, Good}

-- the invariant holds after a call
abbrev pub GoodAfter : List ℕ → Buffers → Replay → Call → Type 0
GoodAfter s b r k = Good s (step_of s b k).after (replay_step s r (record { asked = k; ok = accepted s b k }))

-- ---- records

-- a record that reads as a live one is one
pub record_same : {s c c' : List ℕ} {j k : ℕ} → invocation_of c' j ≡ invocation_of c k → LiveRecord s c k → LiveRecord s c' j
record_same e l = record { program = rw e l.program; stack = rw e l.stack; heap = rw e l.heap }

-- the buffers are valid where every live record is a right one, that of the current invocation too
pub records_valid : (s c p : List ℕ) → snapshot_valid s ≡ true → control_valid c ≡ true → length p ≡ pool_length (frames c)
    → ((k : ℕ) → 1 ≤ k → k ≤ invocations c → LiveRecord s c k)
    → buffers_valid s c p ≡ true
records_valid s c p v w l records =
    let f : ControlFacts c = control_facts c w in
    let d : LiveRecord s c (invocations c) = records (invocations c) f.some_live (omega arith) in
    buffers_valid_lem s c p
    (record {
      snapshot = v;
      control = w;
      pool = l;
      current = current_valid_lem c _ (record { program_known = d.program; few_stack = d.stack; few_heap = d.heap });
    })

-- ---- a call that changes no copy: entries in range, each copy's claims and entry as they were, and the bytes of its frame

-- where the claims of copies stay, the same pages are copied
pub copied_same : (c c' : List ℕ) → frames c' ≡ frames c
    → ((a p i : ℕ) → i < frames c → claims c' (copy_of a p) i ≡ claims c (copy_of a p) i)
    → (k : ℕ) → is_copied c' k ≡ is_copied c k
unfolding is_copied
copied_same c c' count same k = ap is_found (frame_ext c (key_claim k) c' count (λ j l. same (k / 65536) (k % 65536) j l))

module _ {s : List ℕ} {b : Buffers} {r : Replay} (g : Good s b r) (b' : Buffers)
    (ranged : (i : ℕ) → i < frames b.control → EntryRange (frame_entry_of b'.control i))
    (same : (a p i : ℕ) → i < frames b.control → claims b'.control (copy_of a p) i ≡ claims b.control (copy_of a p) i)
    (entries : (a p i : ℕ) → i < frames b.control → claims b.control (copy_of a p) i ≡ true
    → frame_entry_of b'.control i ≡ frame_entry_of b.control i)
    (bytes : (a p i : ℕ) → i < frames b.control → claims b.control (copy_of a p) i ≡ true → (k : ℕ) → k < page_size
    → get_or b'.pool (page_size * i + k) 0 ≡ get_or b.pool (page_size * i + k) 0) where
  -- what a copy claims now, it claimed
  before : (a p i : ℕ) → i < frames b.control → claims b'.control (copy_of a p) i ≡ true
      → claims b.control (copy_of a p) i ≡ true
  before a p i l h = sym (same a p i l) ∙ h

  -- where the buffers are valid and the live records right, the invariant holds of the new buffers, at the depth that they have
  pub keep_other : buffers_valid s b'.control b'.pool ≡ true
      → ((k : ℕ) → 1 ≤ k → k ≤ invocations b'.control → LiveRecord s b'.control k)
      → frames b'.control ≡ frames b.control
      → (d : ℕ) → suc d ≡ invocations b'.control
      → Good s b' (at_depth r d)
  keep_other valid records count d deeper =
      record {
        buffers = valid;
        records = records;
        ranged = rw count ranged;
        sized = g.sized;
        claimed = λ k l. g.claimed k l ∙ sym (copied_same b.control b'.control count same k);
        once = rw count (λ a p i j l m h e. g.once a p i j l m (before a p i l h) (before a p j m e));
        live = rw count (λ a p i l h. g.live a p i l (before a p i l h));
        held = rw count (λ a p i l h k m. bytes a p i l (before a p i l h) k m ∙ g.held a p i l (before a p i l h) k m);
        kept = g.kept;
        deep =
            record {
              current = deeper;
              taken =
                  rw count
                  (λ a p i l h.
                  ap (λ (e : FrameEntry). e.depth) (entries a p i l (before a p i l h)) ∙ g.deep.taken a p i l (before a p i l h));
            };
      }

  -- so it does where only the frame table and the pool were written
  pub keep_table : OnlyTable b.control b'.control → length b'.pool ≡ length b.pool → Good s b' r
  keep_table only size =
      let f : ControlFacts b.control = control_facts _ (buffers_facts s _ _ g.buffers).control in
      keep_other (buffers_kept only s b.pool b'.pool (omega arith) size g.buffers)
      (λ k l m.
      let n : k ≤ invocations b.control = omega (arith, table_invocations only) in
      record_same (table_invocation only k (omega arith)) (g.records k l n))
      (table_frames only) r.depth (g.deep.current ∙ sym (table_invocations only))

-- ---- a call that the replay passes over

module _ {s : List ℕ} {b : Buffers} {r : Replay} (k : Call) (e : replay_effect s r (effect k) ≡ r) where
  -- it does so whether the call was accepted or not
  pub replay_stays : (o : Bool) → Good s b r → Good s b (replay_step s r (record { asked = k; ok = o }))
  replay_stays true g = rw e g
  replay_stays false g = g

  -- where the call writes nothing besides, the invariant holds after it
  pub keep_read : (step_of s b k).after ≡ b → Good s b r → GoodAfter s b r k
  keep_read h g = rw h (replay_stays (accepted s b k) g)
