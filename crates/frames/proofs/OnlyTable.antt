-- What changes nothing but the frame table leaves the header and the shadow records as they were: no change, an entry written, and one such change
-- after another, so any sequence of written entries. Assumes nothing.
use Rattle.std.proofs.Common.{ℕ, ◌≤◌, ◌≡◌, refl, sym, ◌∙◌, inl, List, arith, length}
use Rattle.std.proofs.Math.ListN.{get_or-eq_default}
use Rattle.layout.specs.Control.{edition_at, table_at, live_limit}
use Rattle.words.proofs.Splice.{splice_before}
use Rattle.choice.proofs.Tests.{by_test}
use Rattle.control.specs.Control.{frames, invocations, edition, invocation_of, current, control_valid, current_valid, control_ready, buffers_valid}
use Rattle.control.proofs.Facts.{control_facts}
use Rattle.control.proofs.Kept.{Only, word_kept, invocation_kept, valid_kept}
use Rattle.frames.specs.Table.{frame_entry_at, frame_entry_bytes, put_frame_entry}
use Rattle.frames.specs.declared.table.FrameEntry.{FrameEntry}
use Rattle.frames.proofs.Entries.{length_put}

-- c' is c but for bytes of the frame table
abbrev pub OnlyTable : List ℕ → List ℕ → Type 0
OnlyTable c c' = Only table_at (length c) c c'

-- no change
pub table_same : (c : List ℕ) → OnlyTable c c
table_same c = record { size = refl; below = λ j l. refl; above = λ j l. refl }

-- an entry written
pub table_put : (c : List ℕ) (i : ℕ) (e : FrameEntry) → OnlyTable c (put_frame_entry c i e)
unfolding put_frame_entry
table_put c i e =
    record {
      size = length_put c i e;
      below = λ j l. splice_before c (frame_entry_at i) (frame_entry_bytes e) j (omega arith);
      above = λ j l.
          let m : length (put_frame_entry c i e) ≤ j = omega (arith, length_put c i e) in
          get_or-eq_default (put_frame_entry c i e) 0 m ∙ sym (get_or-eq_default c 0 l);
    }

-- one change, then another
pub table_then : {c d e : List ℕ} → OnlyTable c d → OnlyTable d e → OnlyTable c e
table_then o p =
    record {
      size = p.size ∙ o.size;
      below = λ j l. p.below j l ∙ o.below j l;
      above = λ j l. p.above j (omega (arith, o.size)) ∙ o.above j l;
    }

module _ {c c' : List ℕ} (o : OnlyTable c c') where
  -- the frame count stays
  pub table_frames : frames c' ≡ frames c
  table_frames = word_kept o 4 0 (inl (omega arith))

  -- the live invocations stay
  pub table_invocations : invocations c' ≡ invocations c
  table_invocations = word_kept o 4 4 (inl (omega arith))

  -- the edition stays
  pub table_edition : edition c' ≡ edition c
  table_edition = word_kept o 4 edition_at (inl (omega arith))

  -- each shadow record's program and sizes stay
  pub table_invocation : (k : ℕ) → k ≤ live_limit → invocation_of c' k ≡ invocation_of c k
  table_invocation k l = invocation_kept o k (inl (omega arith))

  -- the current invocation stays
  pub table_current : invocations c ≤ live_limit → current c' ≡ current c
  table_current l = rw table_invocations (table_invocation (invocations c) l)

  -- the control block is as valid as it was
  pub table_valid : control_valid c' ≡ control_valid c
  table_valid = valid_kept o (omega arith)

  -- so are the three buffers
  pub table_buffers : (s p : List ℕ) → buffers_valid s c' p ≡ buffers_valid s c p
  unfolding buffers_valid control_ready current_valid
  table_buffers s p =
      rw (table_valid, table_frames)
      (by_test (control_valid c) (λ t. rw (table_current (control_facts c t).few_live)) (λ t. rw t))
