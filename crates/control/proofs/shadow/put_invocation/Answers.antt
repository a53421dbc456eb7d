use Rattle.std.proofs.Common.{◌≡◌, length, ℕ, ◌+◌, ◌*◌, ◌<◌, List, ◌^◌, refl, sym, ◌∙◌, arith}
use Rattle.layout.specs.Control.{registers_size}
use Rattle.control.specs.Control.{record_at, put_invocation}
use Rattle.control.proofs.shadow.put_invocation.Goals as goal
use Rattle.words.specs.Words.{word_bytes, splice, bytes_at, zeros}
use Rattle.words.proofs.Word.{word_bytes-append}
use Rattle.words.proofs.Run.{run_all}
use Rattle.control.specs.declared.shadow.Invocation.{Invocation}
use Rattle.control.proofs.Records.{field_bytes, put_parts}

-- `control::shadow::put_invocation` meets its contract. The number of eight bytes is the record's three fields and two zeros, and the registers
-- go behind it. Assumes nothing.
-- the bytes of 0
two_zeros : word_bytes 2 0 ≡ zeros 2
unfolding word_bytes zeros
two_zeros = refl

-- one number of eight bytes is three of two bytes, and two zeros
fields : (i : Invocation) → i.program.0 < 65536 → i.stack < 65536 → i.heap < 65536
    → word_bytes 8 (i.program.0 + 65536 * i.stack + 4294967296 * i.heap) ≡ field_bytes i
unfolding field_bytes
fields i hp hs hh =
    let p : ℕ = i.program.0 in
    let s : ℕ = i.stack in
    let h : ℕ = i.heap in
    let e : p + 65536 * s + 4294967296 * h ≡ p + 256 ^ 2 * (s + 256 ^ 2 * (h + 256 ^ 2 * 0)) = omega arith in
    rw (e, word_bytes-append 2 6 p (s + 256 ^ 2 * (h + 256 ^ 2 * 0)) hp, word_bytes-append 2 4 s (h + 256 ^ 2 * 0) hs, word_bytes-append 2 2 h 0 hh, two_zeros)

-- the number put in, and behind it the registers, are the record
put : (c c₁ c₂ : List ℕ) (k at : ℕ) (i : Invocation) (registers : List ℕ) → at ≡ record_at k → i.program.0 < 65536 → i.stack < 65536 → i.heap < 65536
    → length registers ≡ registers_size
    → c₁ ≡ splice c at (word_bytes 8 (i.program.0 + 65536 * i.stack + 4294967296 * i.heap))
    → c₂ ≡ splice c₁ (at + 8) (bytes_at registers_size registers 0)
    → c₂ ≡ put_invocation c k i registers
put c c₁ c₂ k at i registers e hp hs hh l f g =
    let r : bytes_at registers_size registers 0 ≡ registers = rw l at (run_all registers) in
    g ∙ rw (r, f, fields i hp hs hh, e) (sym (put_parts c k i registers))

pub returns : goal.returns
returns c = put _ _ _ _ _ _ _ c.record_at-at.ensures (omega arith) (omega arith) (omega arith) (omega arith) (rw (c.from.ensures, c.from-2.ensures, c.from-3.ensures) at c.write.ensures) c.copy.ensures
