-- The fields of an entry where they are read: what stands at a field's place is the field. Assumes nothing.
use Rattle.std.proofs.Common.{ℕ, ◌+◌, ◌≡◌, List, arith, get_or}
use Rattle.words.specs.Words.{word_at}
use Rattle.frames.specs.Table.{frame_entry_at, frame_field}

-- a word at a field's place is the field
pub field_is : (w o : ℕ) (c : List ℕ) (i at r : ℕ) → at ≡ frame_entry_at i + o → r ≡ word_at w c at → r ≡ frame_field w o c i
unfolding frame_field
field_is w o c i at r e f = cc

-- a byte at a field's place is the field
pub byte_is : (o : ℕ) (c : List ℕ) (i at : ℕ) → at ≡ frame_entry_at i + o → get_or c at 0 ≡ frame_field 1 o c i
unfolding word_at
byte_is o c i at e = field_is 1 o c i at (get_or c at 0) e (omega arith)
