-- `invoke::begin::write_fresh` meets its contract. Zeros over the whole block leave zeros; five words, one behind the other, and the zeros left
-- behind them are the header; the program goes into record 1. Assumes nothing.
use Rattle.std.proofs.Common.{◌≡◌, length, ℕ, List, ◌++◌, refl, sym, ap, ◌∙◌, arith}
use Rattle.layout.specs.Control.{table_at, edition_at, reserved_at, shadow_at}
use Rattle.invoke.specs.Invoke.{frames_in, fresh, header_bytes}
use Rattle.invoke.proofs.begin.write_fresh.Goals as goal
use Rattle.words.specs.Words.{word_bytes, bytes_at, splice, zeros}
use Rattle.words.proofs.Run.{run_behind, run_same, splice_whole, length-zeros, get_or-zeros}
use Rattle.control.specs.Control.{record_at}
use Rattle.invoke.specs.declared.begin.Start.{Start}

-- the words that are written
unfoldable words_bytes : ℕ → ℕ → ℕ → List ℕ
words_bytes f d e = word_bytes 4 f ++ (word_bytes 4 d ++ (word_bytes 4 shadow_at ++ (word_bytes 4 table_at ++ word_bytes 4 e)))

-- they end where the zero word stands
length_words_bytes : (f d e : ℕ) → length (words_bytes f d e) ≡ reserved_at
unfolding words_bytes word_bytes
length_words_bytes f d e = refl

-- put in one behind the other
five_words : (z : List ℕ) (f d e : ℕ)
    → splice (splice (splice (splice (splice z 0 (word_bytes 4 f)) 4 (word_bytes 4 d)) 8 (word_bytes 4 shadow_at)) 12 (word_bytes 4 table_at)) edition_at (word_bytes 4 e)
    ≡ splice z 0 (words_bytes f d e)
unfolding words_bytes word_bytes splice
five_words z f d e = refl

-- the header is those and a zero word
header_splits : (z : List ℕ) (f d e : ℕ) → splice z 0 (header_bytes f d e) ≡ splice (splice z 0 (words_bytes f d e)) reserved_at (zeros 4)
unfolding header_bytes words_bytes word_bytes splice
header_splits z f d e = refl

-- which zeros have there already
zero_word : (n f d e : ℕ) → zeros 4 ≡ bytes_at 4 (splice (zeros n) 0 (words_bytes f d e)) reserved_at
unfolding bytes_at zeros
zero_word n f d e =
    sym (run_behind 4 (zeros n) 0 (words_bytes f d e) reserved_at (omega (arith, length_words_bytes f d e)) ∙ rw (get_or-zeros n 20, get_or-zeros n 21, get_or-zeros n 22, get_or-zeros n 23))

-- so the five words over zeros are the header
header_words : (n f d e : ℕ)
    → splice (splice (splice (splice (splice (zeros n) 0 (word_bytes 4 f)) 4 (word_bytes 4 d)) 8 (word_bytes 4 shadow_at)) 12 (word_bytes 4 table_at)) edition_at (word_bytes 4 e)
    ≡ splice (zeros n) 0 (header_bytes f d e)
header_words n f d e =
    let y : List ℕ = splice (zeros n) 0 (words_bytes f d e) in
    five_words (zeros n) f d e
    ∙ sym (header_splits (zeros n) f d e ∙ ap (λ (bs : List ℕ). splice y reserved_at bs) (zero_word n f d e) ∙ run_same 4 y reserved_at)

-- the writes in order
written : (c : List ℕ) (x : Start) {f d a : ℕ} {z c₁ c₂ c₃ c₄ c₅ c₆ : List ℕ} → f ≡ frames_in (length c) → d ≡ x.edition → a ≡ x.program.0 → z ≡ splice c 0 (zeros (length c))
    → c₁ ≡ splice z 0 (word_bytes 4 f)
    → c₂ ≡ splice c₁ 4 (word_bytes 4 1) → c₃ ≡ splice c₂ 8 (word_bytes 4 shadow_at) → c₄ ≡ splice c₃ 12 (word_bytes 4 table_at)
    → c₅ ≡ splice c₄ edition_at (word_bytes 4 d)
    → c₆ ≡ splice c₅ (record_at 1) (word_bytes 2 a) → c₆ ≡ fresh (length c) x
unfolding fresh
written c x n ed ea e e₁ e₂ e₃ e₄ e₅ e₆ =
    e₆
    ∙ rw (e₅, e₄, e₃, e₂, e₁, n, ed, ea, e, splice_whole c (zeros (length c)) (length-zeros (length c)), header_words (length c) (frames_in (length c)) 1 x.edition)

pub returns : goal.returns
returns c =
    written _ _ c.frames_in-frames.ensures c.from.ensures c.from-2.ensures c.clear.ensures c.write.ensures c.write-2.ensures c.write-3.ensures c.write-4.ensures c.write-5.ensures c.write-6.ensures
