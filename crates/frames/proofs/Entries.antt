-- The laws of frame entries in bytes: an entry that is written reads back as it was given, and every other entry as it was.
-- Assumes nothing.
use Rattle.std.proofs.Common.{◌≡◌, refl, ◌∙◌, ◌≢◌, List, ℕ, ◌+◌, ◌≤◌, ◌<◌, arith, length, get_or}
use Rattle.std.proofs.Math.Decide.{dec_lt}
use Rattle.words.specs.Words.{word_at, word_bytes}
use Rattle.words.proofs.Splice.{length-splice}
use Rattle.words.proofs.Word.{word_before, word_behind, word_in, word_fits}
use Rattle.frames.specs.Table.{frame_entry_at, entry_end, frame_field, frame_entry_of, frame_entry_bytes, put_frame_entry, zero_entry}
use Rattle.frames.specs.declared.table.FrameEntry.{FrameEntry}

-- every field fits its width
pub record EntryRange (e : FrameEntry) : Type 0 where
  pub usage : e.usage < 256
  pub tag : e.tag < 256
  pub account : e.account.0 < 65536
  pub page : e.page.0 < 65536
  pub depth : e.depth < 65536

-- an entry has 8 bytes
pub length_entry_bytes : (e : FrameEntry) → length (frame_entry_bytes e) ≡ 8
unfolding frame_entry_bytes word_bytes
length_entry_bytes e = refl

-- an entry of zeros is in range
pub zero_range : EntryRange zero_entry
zero_range = record { usage = omega arith; tag = omega arith; account = omega arith; page = omega arith; depth = omega arith }

-- an entry of bytes is in range
pub entry_range : (c : List ℕ) → ((k : ℕ) → get_or c k 0 < 256) → (i : ℕ) → EntryRange (frame_entry_of c i)
unfolding frame_field
entry_range c h i =
    record {
      usage = word_fits 1 c (frame_entry_at i + 0) h;
      tag = word_fits 1 c (frame_entry_at i + 1) h;
      account = word_fits 2 c (frame_entry_at i + 2) h;
      page = word_fits 2 c (frame_entry_at i + 4) h;
      depth = word_fits 2 c (frame_entry_at i + 6) h;
    }

module _ (c : List ℕ) (i : ℕ) (e : FrameEntry) where
  -- the length stays
  pub length_put : length (put_frame_entry c i e) ≡ length c
  unfolding put_frame_entry
  length_put = length-splice c (frame_entry_at i) (frame_entry_bytes e)

  -- a field of another entry is as it was
  pub field_other : (w o j : ℕ) → o + w ≤ 8 → j ≢ i → frame_field w o (put_frame_entry c i e) j ≡ frame_field w o c j
  unfolding put_frame_entry frame_field
  field_other w o j f h =
      elim (dec_lt j i) [
        | yes q ↦ word_before w c (frame_entry_at i) (frame_entry_bytes e) (frame_entry_at j + o) (omega arith)
        | no q ↦ word_behind w c (frame_entry_at i) (frame_entry_bytes e) (frame_entry_at j + o) (omega (arith, length_entry_bytes e))
      ]

  -- a field of the entry itself is the one given
  pub field_same : (w o : ℕ) → o + w ≤ 8 → entry_end i ≤ length c
      → frame_field w o (put_frame_entry c i e) i ≡ word_at w (frame_entry_bytes e) o
  unfolding put_frame_entry frame_field
  field_same w o f l =
      word_in w c (frame_entry_at i) (frame_entry_bytes e) o (omega (arith, length_entry_bytes e)) (omega (arith, length_entry_bytes e))

  -- another entry is as it was
  pub entry_other : (j : ℕ) → j ≢ i → frame_entry_of (put_frame_entry c i e) j ≡ frame_entry_of c j
  entry_other j h =
      rw (
        field_other 1 0 j (omega arith) h,
        field_other 1 1 j (omega arith) h,
        field_other 2 2 j (omega arith) h,
        field_other 2 4 j (omega arith) h,
        field_other 2 6 j (omega arith) h,
      )

  -- the entry itself is the one given
  pub entry_same : EntryRange e → entry_end i ≤ length c → frame_entry_of (put_frame_entry c i e) i ≡ e
  unfolding frame_entry_bytes word_bytes word_at
  entry_same r l =
      let u : frame_field 1 0 (put_frame_entry c i e) i ≡ e.usage = field_same 1 0 (omega arith) l ∙ omega arith in
      let t : frame_field 1 1 (put_frame_entry c i e) i ≡ e.tag = field_same 1 1 (omega arith) l ∙ omega arith in
      let a : frame_field 2 2 (put_frame_entry c i e) i ≡ e.account.0 = field_same 2 2 (omega arith) l ∙ omega arith in
      let p : frame_field 2 4 (put_frame_entry c i e) i ≡ e.page.0 = field_same 2 4 (omega arith) l ∙ omega arith in
      let z : frame_field 2 6 (put_frame_entry c i e) i ≡ e.depth = field_same 2 6 (omega arith) l ∙ omega arith in
      rw (u, t, a, p, z)
