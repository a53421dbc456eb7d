-- `changes::list::write_header` meets its contract: the four writes, one behind the other, are one. Assumes nothing.
use Rattle.std.proofs.Common.{◌≡◌, ℕ, ◌+◌, List, ◌∙◌}
use Rattle.layout.specs.List.{pages_at, list_total, list_header}
use Rattle.words.specs.Words.{splice, word_bytes}
use Rattle.changes.specs.List.{list_header_bytes}
use Rattle.changes.proofs.list.write_header.Goals as goal
use Rattle.words.proofs.Splice.{splice-append}
use Rattle.words.proofs.Word.{length-word_bytes}

-- the four writes
written : (out : List ℕ) (n : ℕ) {o₁ o₂ o₃ o₄ : List ℕ} {p t : ℕ} → p ≡ pages_at n → t ≡ list_total n → o₁ ≡ splice out 0 (word_bytes 4 n)
    → o₂ ≡ splice o₁ 4 (word_bytes 4 list_header) → o₃ ≡ splice o₂ (4 + 4) (word_bytes 4 p) → o₄ ≡ splice o₃ (4 + 4 + 4) (word_bytes 4 t)
    → o₄ ≡ splice out 0 (list_header_bytes n)
unfolding list_header_bytes
written out n ep et e₁ e₂ e₃ e₄ =
    e₄ ∙ rw (e₃, e₂, e₁, ep, et, splice-append, splice-append, splice-append, length-word_bytes, length-word_bytes, length-word_bytes)

pub returns : goal.returns
returns c =
    written _ _ c.pages_at.ensures c.list_total.ensures c.write.ensures c.write-2.ensures c.write-3.ensures
    c.write-4.ensures
