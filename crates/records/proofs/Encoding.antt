-- Bytes of a record and record of bytes, once over the list of widths: a record has its layout's size, the bytes of fields in range spell
-- those fields, and fields written one after another are the record's bytes. Assumes nothing.
use Rattle.std.proofs.Common.{ℕ, ◌+◌, ◌≡◌, refl, ap, sym, ◌∙◌, List, [], ◌∷◌, ◌++◌, append-nil, append_assoc, arith, add_assoc, length, replicate, length-append}
use Rattle.std.proofs.Math.ListN.{length-replicate}
use Rattle.words.specs.Words.{word_at, word_bytes, splice}
use Rattle.words.proofs.Word.{word_left, word_right, word_bytes_lem, length-word_bytes}
use Rattle.words.proofs.Splice.{splice-append}
use Rattle.words.proofs.Run.{splice_whole}
use Rattle.records.specs.Layout.{record_length, encoded, decoded, Ranged}

-- a record's bytes number its layout's size
pub length-encoded : (ws vs : List ℕ) → length (encoded ws vs) ≡ record_length ws
unfolding encoded record_length
length-encoded [] vs = refl
length-encoded (w ∷ ws) [] = length-append (word_bytes w 0) (encoded ws []) ∙ rw (length-word_bytes w 0, length-encoded ws [])
length-encoded (w ∷ ws) (v ∷ vs) = length-append (word_bytes w v) (encoded ws vs) ∙ rw (length-word_bytes w v, length-encoded ws vs)

-- the same, under a name that code can cite
pub ruleset record_size = (length-encoded)

-- fields behind others
decoded_right : (ws xs ys : List ℕ) (k : ℕ) → decoded ws (xs ++ ys) (length xs + k) ≡ decoded ws ys k
unfolding decoded
decoded_right [] xs ys k = refl
decoded_right (w ∷ ws) xs ys k =
    rw (word_right w xs ys k, add_assoc (length xs) k w, decoded_right ws xs ys (k + w))

-- the bytes of fields in range spell those fields
pub decoded-encoded : (ws vs : List ℕ) → Ranged ws vs → decoded ws (encoded ws vs) 0 ≡ vs
unfolding decoded encoded Ranged
decoded-encoded [] [] r = refl
decoded-encoded [] (v ∷ vs) r = absurd r
decoded-encoded (w ∷ ws) [] r = absurd r
decoded-encoded (w ∷ ws) (v ∷ vs) r =
    let front : word_at w (word_bytes w v ++ encoded ws vs) 0 ≡ v =
    word_left w (word_bytes w v) (encoded ws vs) 0 (omega (arith, length-word_bytes w v)) ∙ word_bytes_lem w v r.0 in
    let next : 0 + w ≡ length (word_bytes w v) + 0 = omega (arith, length-word_bytes w v) in
    let rest : decoded ws (word_bytes w v ++ encoded ws vs) (0 + w) ≡ vs =
    ap (decoded ws (word_bytes w v ++ encoded ws vs)) next ∙ decoded_right ws (word_bytes w v) (encoded ws vs) 0 ∙ decoded-encoded ws vs r.1 in
    cc

-- ---- fields written one after another

-- a number written is a part of one field
pub put_field : (s : List ℕ) (at w v : ℕ) {t : List ℕ} → t ≡ splice s at (word_bytes w v) → t ≡ splice s at (encoded (w ∷ []) (v ∷ []))
unfolding encoded
put_field s at w v e = rw (append-nil (word_bytes w v)) e

-- the bytes of two parts, each with all of its fields
encoded-append : (ws us vs xs : List ℕ) → length vs ≡ length ws → encoded (ws ++ us) (vs ++ xs) ≡ encoded ws vs ++ encoded us xs
unfolding encoded
encoded-append [] us [] xs e = refl
encoded-append [] us (v ∷ vs) xs e = absurd (omega (arith, e))
encoded-append (w ∷ ws) us [] xs e = absurd (omega (arith, e))
encoded-append (w ∷ ws) us (v ∷ vs) xs e =
    rw (encoded-append ws us vs xs (omega (arith, e))) (sym (append_assoc (word_bytes w v) (encoded ws vs) (encoded us xs)))

-- a part written behind another: both are there
pub put_next : (s : List ℕ) (at : ℕ) (ws us vs xs : List ℕ) → length vs ≡ length ws → {t u : List ℕ} → t ≡ splice s at (encoded ws vs)
    → u ≡ splice t (at + record_length ws) (encoded us xs)
    → u ≡ splice s at (encoded (ws ++ us) (vs ++ xs))
put_next s at ws us vs xs e x y =
    rw (y, x, encoded-append ws us vs xs e, ← length-encoded ws vs) (sym (splice-append s at (encoded ws vs) (encoded us xs)))

-- they are one write of all the bytes
pub ruleset put_fields = (splice-append, length-word_bytes, append-nil)

-- a record written into an array of its size
pub put_whole : (ws vs : List ℕ) (n : ℕ) → record_length ws ≡ n → splice (replicate n 0) 0 (encoded ws vs) ≡ encoded ws vs
put_whole ws vs n e =
    splice_whole (replicate n 0) (encoded ws vs) (length-encoded ws vs ∙ e ∙ sym (length-replicate {A = ℕ} n 0))
