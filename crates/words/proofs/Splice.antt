-- The laws of `splice`, bytes put into a list at a place. Assumes nothing.
use Rattle.std.proofs.Common.{◌≡◌, refl, sym, ap, ◌∙◌, List, [], ◌∷◌, ◌++◌, ℕ, zero, suc, ◌+◌, ◌≤◌, ◌<◌, add-zero, add-suc, suc-add, arith, get_or, set, length, length-set, get_or-set_same, get_or-set_other, set-set}
use Rattle.std.proofs.Math.Seq.{set_comm}
use Rattle.words.specs.Words.{splice}

-- the length stays
pub length-splice : (s : List ℕ) (at : ℕ) (bs : List ℕ) → length (splice s at bs) ≡ length s
unfolding splice
length-splice s at [] = refl
length-splice s at (b ∷ bs) = length-splice (set s at b) (suc at) bs ∙ length-set s at b

-- a byte before the place is as it was
pub splice_before : (s : List ℕ) (at : ℕ) (bs : List ℕ) (j : ℕ) → j < at → get_or (splice s at bs) j 0 ≡ get_or s j 0
unfolding splice
splice_before s at [] j h = refl
splice_before s at (b ∷ bs) j h = splice_before (set s at b) (suc at) bs j (omega arith) ∙ get_or-set_other s at j b 0 (omega arith)

-- a byte behind what was put in is as it was
pub splice_behind : (s : List ℕ) (at : ℕ) (bs : List ℕ) (j : ℕ) → at + length bs ≤ j → get_or (splice s at bs) j 0 ≡ get_or s j 0
unfolding splice
splice_behind s at [] j h = refl
splice_behind s at (b ∷ bs) j h = splice_behind (set s at b) (suc at) bs j (omega arith) ∙ get_or-set_other s at j b 0 (omega arith)

-- a byte that was put in
pub splice_in : (s : List ℕ) (at : ℕ) (bs : List ℕ) (k : ℕ) → k < length bs → at + length bs ≤ length s → get_or (splice s at bs) (at + k) 0 ≡ get_or bs k 0
unfolding splice
splice_in s at [] k h l = absurd (omega arith)
splice_in s at (b ∷ bs) zero h l = rw add-zero (splice_before (set s at b) (suc at) bs at (omega arith) ∙ get_or-set_same s at b 0 (omega arith))
splice_in s at (b ∷ bs) (suc k) h l =
    rw (add-suc, ← suc-add) (splice_in (set s at b) (suc at) bs k (omega arith) (simp length-set (omega arith)))

-- two runs, one behind the other
pub splice-append : (s : List ℕ) (at : ℕ) (xs ys : List ℕ) → splice s at (xs ++ ys) ≡ splice (splice s at xs) (at + length xs) ys
unfolding splice
splice-append s at [] ys = rw add-zero
splice-append s at (x ∷ xs) ys = rw (add-suc, ← suc-add) (splice-append (set s at x) (suc at) xs ys)

-- a byte before the place may be written first
pub splice-set : (s : List ℕ) (at : ℕ) (bs : List ℕ) (j v : ℕ) → j < at → set (splice s at bs) j v ≡ splice (set s j v) at bs
unfolding splice
splice-set s at [] j v h = refl
splice-set s at (b ∷ bs) j v h =
    splice-set (set s at b) (suc at) bs j v (omega arith) ∙ ap (λ (l : List ℕ). splice l (suc at) bs) (set_comm s at j b v (omega arith))

-- a write over a write
pub splice_over : (s : List ℕ) (at : ℕ) (xs ys : List ℕ) → length xs ≤ length ys → splice (splice s at xs) at ys ≡ splice s at ys
unfolding splice
splice_over s at [] ys h = refl
splice_over s at (x ∷ xs) [] h = absurd (omega arith)
splice_over s at (x ∷ xs) (y ∷ ys) h =
    rw (splice-set (set s at x) (suc at) xs at y (omega arith), set-set s at x y) (splice_over (set s at y) (suc at) xs ys (omega arith))

-- a list's first byte, before the place, stands aside
splice-cons : (x : ℕ) (s : List ℕ) (at : ℕ) (bs : List ℕ) → splice (x ∷ s) (suc at) bs ≡ x ∷ splice s at bs
unfolding splice
splice-cons x s at [] = refl
splice-cons x s at (b ∷ bs) = splice-cons x (set s at b) (suc at) bs

-- a write inside a write
pub splice_inside : (s : List ℕ) (at : ℕ) (xs : List ℕ) (k : ℕ) (ys : List ℕ) → k + length ys ≤ length xs → at + length xs ≤ length s
    → splice (splice s at xs) (at + k) ys ≡ splice s at (splice xs k ys)
unfolding splice
splice_inside s at [] k [] h l = refl
splice_inside s at [] k (y ∷ ys) h l = absurd (omega arith)
splice_inside s at (x ∷ xs) k [] h l = refl
splice_inside s at (x ∷ xs) (suc k) (y ∷ ys) h l =
    rw (add-suc, ← suc-add, splice-cons x (set xs k y) (suc k) ys)
    (splice_inside (set s at x) (suc at) xs k (y ∷ ys) (omega arith) (simp length-set (omega arith)))
splice_inside s at (x ∷ xs) zero (y ∷ ys) h l =
    rw (add-zero, splice-set (set s at x) (suc at) xs at y (omega arith), set-set s at x y, splice-cons y xs 0 ys)
    (rw add-zero at (splice_inside (set s at y) (suc at) xs 0 ys (omega arith) (simp length-set (omega arith))))

-- two writes apart from each other, in either order
pub splice_swap : (s : List ℕ) (at : ℕ) (xs : List ℕ) (at' : ℕ) (ys : List ℕ) → at + length xs ≤ at'
    → splice (splice s at xs) at' ys ≡ splice (splice s at' ys) at xs
unfolding splice
splice_swap s at [] at' ys h = refl
splice_swap s at (x ∷ xs) at' ys h =
    splice_swap (set s at x) (suc at) xs at' ys (omega arith)
    ∙ ap (λ (l : List ℕ). splice l (suc at) xs) (sym (splice-set s at' ys at x (omega arith)))
