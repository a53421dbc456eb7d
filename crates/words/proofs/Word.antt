-- The laws of numbers in bytes, `word_at` and `word_bytes`, over the width. Assumes nothing.
use Rattle.std.proofs.Common.{◌≡◌, refl, ap, ◌∙◌, List, ◌∷◌, ◌++◌, ℕ, zero, suc, ◌+◌, ◌*◌, ◌/◌, ◌%◌, ◌^◌, ◌≤◌, ◌<◌, add-zero, add-suc, suc-add, zero-add, mul_assoc, arith, get_or, length, take, get_or-append-add}
use Rattle.std.proofs.Math.Nat.{pow-succ', pow-zero}
use Rattle.std.proofs.Math.ListN.{get_or-append}
use Rattle.words.specs.Words.{word_at, word_bytes, splice, zeros}
use Rattle.words.proofs.Splice.{splice_before, splice_behind, splice_in}
use Rattle.words.proofs.Run.{get_or-zeros}

-- a word is what its bytes are
pub word_ext : (n : ℕ) (s t : List ℕ) (a b : ℕ) → ((k : ℕ) → k < n → get_or s (a + k) 0 ≡ get_or t (b + k) 0) → word_at n s a ≡ word_at n t b
unfolding word_at
word_ext zero s t a b h = refl
word_ext (suc n) s t a b h =
    let e : get_or s a 0 ≡ get_or t b 0 = rw (add-zero a, add-zero b) at (h 0 (omega arith)) in
    let r : word_at n s (suc a) ≡ word_at n t (suc b) = word_ext n s t (suc a) (suc b) (λ k l. rw (suc-add, suc-add, ← add-suc, ← add-suc) (h (suc k) (omega arith))) in
    cc

-- a word before a write is as it was
pub word_before : (n : ℕ) (s : List ℕ) (at : ℕ) (bs : List ℕ) (j : ℕ) → j + n ≤ at → word_at n (splice s at bs) j ≡ word_at n s j
word_before n s at bs j h = word_ext n (splice s at bs) s j j (λ k l. splice_before s at bs (j + k) (omega arith))

-- a word behind a write is as it was
pub word_behind : (n : ℕ) (s : List ℕ) (at : ℕ) (bs : List ℕ) (j : ℕ) → at + length bs ≤ j → word_at n (splice s at bs) j ≡ word_at n s j
word_behind n s at bs j h = word_ext n (splice s at bs) s j j (λ k l. splice_behind s at bs (j + k) (omega arith))

-- a word inside what was put in
pub word_in : (n : ℕ) (s : List ℕ) (at : ℕ) (bs : List ℕ) (k : ℕ) → k + n ≤ length bs → at + length bs ≤ length s → word_at n (splice s at bs) (at + k) ≡ word_at n bs k
word_in n s at bs k h l =
    word_ext n (splice s at bs) bs (at + k) k (λ j m. let e : at + k + j ≡ at + (k + j) = omega arith in rw e (splice_in s at bs (k + j) (omega arith) l))

-- a word of the first of two lists
pub word_left : (n : ℕ) (xs ys : List ℕ) (k : ℕ) → k + n ≤ length xs → word_at n (xs ++ ys) k ≡ word_at n xs k
word_left n xs ys k h = word_ext n (xs ++ ys) xs k k (λ j l. get_or-append xs ys 0 (k + j) (omega arith))

-- a word of the second of two lists
pub word_right : (n : ℕ) (xs ys : List ℕ) (k : ℕ) → word_at n (xs ++ ys) (length xs + k) ≡ word_at n ys k
word_right n xs ys k =
    word_ext n (xs ++ ys) ys (length xs + k) k
    (λ j l. let e : length xs + k + j ≡ length xs + (k + j) = omega arith in rw e (get_or-append-add xs ys (k + j) 0))

-- a word of zeros is 0
pub word_zeros : (n m at : ℕ) → word_at n (zeros m) at ≡ 0
unfolding word_at
word_zeros zero m at = refl
word_zeros (suc n) m at = omega (arith, get_or-zeros m at, word_zeros n m (suc at))

-- a word of bytes fits its width
pub word_fits : (n : ℕ) (s : List ℕ) (at : ℕ) → ((i : ℕ) → get_or s i 0 < 256) → word_at n s at < 256 ^ n
unfolding word_at
word_fits zero s at h = rw pow-zero (omega arith)
word_fits (suc n) s at h = rw pow-succ' (omega (arith, h at, word_fits n s (suc at) h))

-- a word is its low part, and its high part above that
pub word_append : (m n : ℕ) (s : List ℕ) (at : ℕ) → word_at (m + n) s at ≡ word_at m s at + 256 ^ m * word_at n s (at + m)
unfolding word_at
word_append zero n s at = rw (zero-add n, pow-zero, add-zero at) (omega arith)
word_append (suc m) n s at =
    rw (suc-add, pow-succ', add-suc, ← suc-add, mul_assoc) (omega (arith, word_append m n s (suc at)))

-- a word of one byte is the byte
pub word_one : (s : List ℕ) (at : ℕ) → word_at 1 s at ≡ get_or s at 0
unfolding word_at
word_one s at = omega arith

-- so many bytes as asked
pub length-word_bytes : (n v : ℕ) → length (word_bytes n v) ≡ n
unfolding word_bytes
length-word_bytes zero v = refl
length-word_bytes (suc n) v = ap suc (length-word_bytes n (v / 256))

-- the bytes of a low and a high part
pub word_bytes-append : (m n x y : ℕ) → x < 256 ^ m → word_bytes (m + n) (x + 256 ^ m * y) ≡ word_bytes m x ++ word_bytes n y
unfolding word_bytes
word_bytes-append zero n x y h =
    let z : x < 1 = rw pow-zero at h in
    let e : x + 256 ^ zero * y ≡ y = rw pow-zero (omega arith) in
    rw (zero-add n, e)
word_bytes-append (suc m) n x y h =
    let l : x < 256 * 256 ^ m = rw pow-succ' at h in
    let e : x + 256 ^ suc m * y ≡ x + 256 * (256 ^ m * y) = rw (pow-succ', mul_assoc) in
    let d : (x + 256 * (256 ^ m * y)) / 256 ≡ x / 256 + 256 ^ m * y = omega arith in
    let r : (x + 256 * (256 ^ m * y)) % 256 ≡ x % 256 = omega arith in
    rw (suc-add, e, d, r, word_bytes-append m n (x / 256) y (omega arith))

-- the first bytes of a number
pub take-word_bytes : (m n v : ℕ) → m ≤ n → take m (word_bytes n v) ≡ word_bytes m v
unfolding word_bytes
take-word_bytes zero n v h = refl
take-word_bytes (suc m) zero v h = absurd (omega arith)
take-word_bytes (suc m) (suc n) v h = ap (λ (r : List ℕ). (v % 256) ∷ r) (take-word_bytes m n (v / 256) (omega arith))

-- the bytes of a number that fits spell it
pub word_bytes_lem : (n v : ℕ) → v < 256 ^ n → word_at n (word_bytes n v) 0 ≡ v
unfolding word_at word_bytes
word_bytes_lem zero v h = let e : v < 1 = rw pow-zero at h in omega arith
word_bytes_lem (suc n) v h =
    let m : v < 256 * 256 ^ n = rw pow-succ' at h in
    let r : word_at n (word_bytes n (v / 256)) 0 ≡ v / 256 = word_bytes_lem n (v / 256) (omega arith) in
    let t : word_at n ((v % 256) ∷ word_bytes n (v / 256)) 1 ≡ word_at n (word_bytes n (v / 256)) 0 =
    word_ext n ((v % 256) ∷ word_bytes n (v / 256)) (word_bytes n (v / 256)) 1 0 (λ k l. rw (suc-add, zero-add)) in
    omega arith

-- a number that fits, written and read back
pub word_same : (n : ℕ) (s : List ℕ) (at v : ℕ) → v < 256 ^ n → at + n ≤ length s → word_at n (splice s at (word_bytes n v)) at ≡ v
word_same n s at v h l =
    let e : length (word_bytes n v) ≡ n = length-word_bytes n v in
    rw add-zero at (word_in n s at (word_bytes n v) 0 (omega arith) (omega arith)) ∙ word_bytes_lem n v h
