use Rattle.std.proofs.Common.{◌≡◌, refl, ◌∙◌}
use Rattle.frames.specs.Table.{put_frame_entry, frame_entry_bytes, zero_entry}
use Rattle.frames.proofs.table.free_frame_entry.Goals as goal
use Rattle.words.specs.Words.{word_bytes}

-- `frames::table::free_frame_entry` meets its contract: the bytes of 0 are those of the zero entry. Assumes nothing.
-- eight zero bytes
zero_word : word_bytes 8 0 ≡ frame_entry_bytes zero_entry
unfolding word_bytes frame_entry_bytes
zero_word = refl

pub returns : goal.returns
unfolding put_frame_entry
returns c = c.write.ensures ∙ rw (c.frame_entry_at.ensures, zero_word)
