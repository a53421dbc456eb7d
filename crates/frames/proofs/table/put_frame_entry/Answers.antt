use Rattle.std.proofs.Common.{◌≡◌, ◌+◌, ℕ, ◌*◌, ◌<◌, List, arith}
use Rattle.frames.specs.Table.{frame_entry_at, put_frame_entry, frame_entry_bytes}
use Rattle.frames.proofs.table.put_frame_entry.Goals as goal
use Rattle.words.specs.Words.{word_bytes, splice}
use Rattle.words.proofs.Word.{word_bytes-append}
use Rattle.frames.specs.declared.table.FrameEntry.{FrameEntry}

-- `frames::table::put_frame_entry` meets its contract: the bytes of the number that is written are those of the fields, one behind
-- the other. Assumes nothing.
-- the fields' bytes are those of one number
one_word : (e : FrameEntry) → e.usage < 256 → e.tag < 256 → e.account.0 < 65536 → e.page.0 < 65536
    → word_bytes 8 (e.usage + 256 * e.tag + 65536 * e.account.0 + 4294967296 * (e.page.0 + 65536 * e.depth)) ≡ frame_entry_bytes e
unfolding frame_entry_bytes
one_word e u t a p =
    let n : ℕ = e.page.0 + 65536 * e.depth in
    let v : e.usage + 256 * e.tag + 65536 * e.account.0 + 4294967296 * n ≡ e.usage + 256 * (e.tag + 256 * (e.account.0 + 65536 * n)) = omega arith in
    rw (
      v,
      word_bytes-append 1 7 e.usage (e.tag + 256 * (e.account.0 + 65536 * n)) u,
      word_bytes-append 1 6 e.tag (e.account.0 + 65536 * n) t,
      word_bytes-append 2 4 e.account.0 n a,
      word_bytes-append 2 2 e.page.0 e.depth p,
    )

-- that number, written at the entry's place
entry_put : (c : List ℕ) (i at v : ℕ) (e : FrameEntry) (d : List ℕ) → at ≡ frame_entry_at i → word_bytes 8 v ≡ frame_entry_bytes e
    → d ≡ splice c at (word_bytes 8 v) → d ≡ put_frame_entry c i e
unfolding put_frame_entry
entry_put c i at v e d p q r = cc

pub returns : goal.returns
returns c =
    entry_put _ _ _ _ c.args.e _ c.frame_entry_at.ensures (one_word c.args.e (omega arith) (omega arith) (omega arith) (omega arith))
    (rw (c.from.ensures, c.from-2.ensures, c.from-3.ensures, c.from-4.ensures, c.from-5.ensures) at c.write.ensures)
