use Rattle.std.proofs.Common.{◌≡◌, length, ℕ, ◌+◌, List, sym, ◌∙◌, arith}
use Rattle.layout.specs.Control.{registers_size}
use Rattle.control.specs.Control.{record_at, registers_of}
use Rattle.control.proofs.shadow.read_registers.Goals as goal
use Rattle.words.specs.Words.{splice, bytes_at}
use Rattle.words.proofs.Splice.{length-splice}
use Rattle.words.proofs.Run.{length-bytes_at, run_all, run_back}

-- `control::shadow::read_registers` meets its contract: a run as long as the slice that it is put into is the slice afterwards. Assumes nothing.
-- a run that is as long as what it is put into, put in at its start
whole : (s bs : List ℕ) → length bs ≡ length s → splice s 0 bs ≡ bs
whole s bs l =
    let e : length (splice s 0 bs) ≡ length bs = length-splice s 0 bs ∙ sym l in
    sym (run_all (splice s 0 bs)) ∙ rw e (run_back s 0 bs (omega arith))

-- so the registers put in are what the slice has
read_back : (c out out₀ : List ℕ) (k at : ℕ) → at ≡ record_at k → length out₀ ≡ registers_size → out ≡ splice out₀ 0 (bytes_at registers_size c (at + 8)) → out ≡ registers_of c k
unfolding registers_of
read_back c out out₀ k at e l f = rw (← e) (f ∙ whole out₀ (bytes_at registers_size c (at + 8)) (length-bytes_at registers_size c (at + 8) ∙ sym l))

pub returns : goal.returns
returns c = read_back _ _ _ _ _ c.record_at.ensures (omega arith) c.copy.ensures
