use Rattle.std.proofs.Common.{◌≡◌, ◌+◌, ℕ, List, refl, get_or}
use Rattle.frames.specs.Table.{frame_entry_at, frame_entry_of, frame_field}
use Rattle.frames.proofs.table.entry_at.Goals as goal
use Rattle.words.specs.Words.{word_at}
use Rattle.frames.specs.declared.table.FrameEntry.{FrameEntry}
use Rattle.frames.proofs.Fields.{byte_is, field_is}

-- `frames::table::entry_at` meets its contract: each read is a field of the entry, at its place. Assumes nothing.
-- the reads, one for each field
entry_is : (c : List ℕ) (i u a p z : ℕ) → u ≡ frame_field 1 0 c i → a ≡ word_at 2 c (frame_entry_at i + 2) → p ≡ word_at 2 c (frame_entry_at i + 4)
    → z ≡ word_at 2 c (frame_entry_at i + 6)
    → ◌≡◌ {A = FrameEntry}
    record {
      usage = u;
      tag = get_or c (frame_entry_at i + 1) 0;
      account = record { 0 = a };
      page = record { 0 = p };
      depth = z;
    }
    (frame_entry_of c i)
entry_is c i u a p z f₀ f g h =
    let f₁ = byte_is 1 c i (frame_entry_at i + 1) refl in
    let f₂ = field_is 2 2 c i (frame_entry_at i + 2) a refl f in
    let f₄ = field_is 2 4 c i (frame_entry_at i + 4) p refl g in
    let f₆ = field_is 2 6 c i (frame_entry_at i + 6) z refl h in
    cc

pub returns : goal.returns
returns c =
    entry_is _ _ _ _ _ _ c.usage_at.ensures c.u16_at.ensures c.u16_at-2.ensures
    c.u16_at-3.ensures
