-- What lies below the frame table and what lies in it stand apart: a write of an entry leaves the header and the shadow records,
-- and a write below the table leaves every entry. Assumes nothing.
use Rattle.std.proofs.Common.{◌≡◌, ap, List, ℕ, ◌+◌, ◌≤◌, arith, length}
use Rattle.layout.specs.Control.{table_at, live_limit}
use Rattle.words.specs.Words.{splice}
use Rattle.words.proofs.Word.{word_behind}
use Rattle.control.specs.Control.{frames, invocations, invocation_of, buffers_valid}
use Rattle.frames.specs.Table.{frame_entry_at, frame_field, frame_entry_of, put_frame_entry, holds, claims}
use Rattle.frames.specs.declared.table.FrameEntry.{FrameEntry}
use Rattle.frames.specs.declared.claim.Claim.{Claim}
use Rattle.frames.proofs.OnlyTable.{table_put, table_frames, table_invocations, table_invocation, table_buffers}

-- ---- a write of an entry

module _ (c : List ℕ) (i : ℕ) (e : FrameEntry) where
  -- the number of frames stays
  pub frames_kept : frames (put_frame_entry c i e) ≡ frames c
  frames_kept = table_frames (table_put c i e)

  -- the number of live invocations stays
  pub invocations_kept : invocations (put_frame_entry c i e) ≡ invocations c
  invocations_kept = table_invocations (table_put c i e)

  -- each shadow record's fields stay
  pub invocation_kept : (k : ℕ) → k ≤ live_limit → invocation_of (put_frame_entry c i e) k ≡ invocation_of c k
  invocation_kept = table_invocation (table_put c i e)

  -- the three buffers stay fit or unfit
  pub buffers_valid_kept : (s p : List ℕ) → buffers_valid s (put_frame_entry c i e) p ≡ buffers_valid s c p
  buffers_valid_kept = table_buffers (table_put c i e)

-- ---- a write below the table

module _ (c : List ℕ) (at : ℕ) (bs : List ℕ) (below : at + length bs ≤ table_at) (i : ℕ) where
  -- each field of each entry is as it was
  pub field_above : (w o : ℕ) → frame_field w o (splice c at bs) i ≡ frame_field w o c i
  unfolding frame_field
  field_above w o = word_behind w c at bs (frame_entry_at i + o) (omega arith)

  -- so is each entry
  pub entry_above : frame_entry_of (splice c at bs) i ≡ frame_entry_of c i
  entry_above = rw (field_above 1 0, field_above 1 1, field_above 2 2, field_above 2 4, field_above 2 6)

  -- it claims what it claimed
  pub claims_above : (q : Claim) → claims (splice c at bs) q i ≡ claims c q i
  unfolding claims
  claims_above q = ap (λ (e : FrameEntry). holds q e) entry_above
