-- What the library says of a part of a slice, of `from_le_bytes` and of `to_le_bytes`, in the words of `specs/`. Assumes nothing.
use Rattle.std.proofs.Common.{◌≡◌, refl, sym, ap, ◌∙◌, List, [], ◌∷◌, ◌++◌, ℕ, zero, suc, ◌+◌, ◌-◌, ◌*◌, ◌/◌, ◌%◌, ◌^◌, ◌≤◌, ◌<◌, zero-add, arith, get_or, length, take, drop, drop-drop, slice_index, set, append_assoc, take_at, ext_get_or}
use Rattle.std.proofs.Math.Nat.{pow-succ', mul_comm, div-one, div-div-eq-div-mul}
use Rattle.std.proofs.lemmas.List.Edits.{sets, sets-eq, length-between, get_or-between}
use Rattle.std.specs.Int.{w16, w32, w64, byte_at, byte_worth, sum_through, bytes_low_first, from_le_bytes, to_le_bytes}
use borrow.Rule.Slice.PartMut.{put_mid}
use Rattle.words.specs.Words.{word_at, word_bytes, splice, bytes_at, zeros}
use Rattle.words.proofs.Word.{word_ext, word_append, take-word_bytes}
use Rattle.words.proofs.Run.{run_is, get_or-bytes_at, length-bytes_at, length-zeros, get_or-zeros}

-- the part of a slice from `at` on is the run there
pub part_run : (s : List ℕ) (at n : ℕ) → at + n ≤ length s → take (at + n - at) (drop at s) ≡ bytes_at n s at
part_run s at n h =
    let l : length (take (at + n - at) (drop at s)) ≡ n = length-between s at (at + n) h ∙ omega arith in
    sym (run_is n s at (take (at + n - at) (drop at s)) l (λ k m. sym (get_or-between s at (at + n) k 0 (omega arith))))

-- so is the front of a list that it was copied to
pub run_front : (s : List ℕ) (at n : ℕ) (xs ys : List ℕ) → xs ≡ take (at + n - at) (drop at s) → at + n ≤ length s → take n (xs ++ ys) ≡ bytes_at n s at
run_front s at n xs ys e h =
    let f : xs ≡ bytes_at n s at = e ∙ part_run s at n h in
    take_at xs ys n (ap length f ∙ length-bytes_at n s at) ∙ f

-- bytes put in one after the other
splice-sets : (s : List ℕ) (at : ℕ) (bs : List ℕ) → splice s at bs ≡ sets s at bs
unfolding splice
splice-sets s at [] = refl
splice-sets s at (b ∷ bs) = splice-sets (set s at b) (suc at) bs

-- a part of a slice written over is the bytes put in
pub part_put : (s : List ℕ) (at n : ℕ) (bs : List ℕ) → length bs ≡ n → at + n ≤ length s → put_mid at (at + n - at) s bs ≡ splice s at bs
part_put s at n bs l h =
    let e : at + (at + n - at) ≡ at + length bs = omega arith in
    rw (drop-drop (at + n - at) at s, e) (sym (splice-sets s at bs ∙ sets-eq bs s at (omega arith) ∙ append_assoc (take at s) bs (drop (at + length bs) s)))

-- zeros all through a part
pub zeros_put : (s : List ℕ) (at n : ℕ) (xs : List ℕ) → length xs ≡ n → ((k : ℕ) → k < n → get_or xs k 0 ≡ 0) → at + n ≤ length s
    → put_mid at (at + n - at) s xs ≡ splice s at (zeros n)
zeros_put s at n xs l f h =
    let e : xs ≡ zeros n =
    ext_get_or 0 xs (zeros n) (l ∙ sym (length-zeros n)) (λ k b. f k (omega arith) ∙ sym (get_or-zeros n k)) in
    rw e (part_put s at n (zeros n) (length-zeros n) h)

-- a sum of bytes by their worth is the word
word-sum : (n : ℕ) (bs : List ℕ) → sum_through (λ i. byte_worth i (slice_index bs i)) n ≡ word_at (suc n) bs 0
unfolding word_at
word-sum zero bs = omega arith
word-sum (suc n) bs =
    let e : suc n + 1 ≡ suc (suc n) = omega arith in
    let w : word_at (suc (suc n)) bs 0 ≡ word_at (suc n) bs 0 + 256 ^ suc n * word_at 1 bs (suc n) = rw (e, zero-add) at (word_append (suc n) 1 bs 0) in
    omega (arith, w, word-sum n bs, mul_comm (256 ^ suc n) (get_or bs (suc n) 0))

-- a word of the run is the word there
word_run : (n : ℕ) (s : List ℕ) (at : ℕ) → word_at n (bytes_at n s at) 0 ≡ word_at n s at
word_run n s at = word_ext n (bytes_at n s at) s 0 at (λ k h. rw zero-add (get_or-bytes_at n s at k h))

-- and so is the number that the library makes of the run, at each size
pub word_16 : (s : List ℕ) (at : ℕ) → from_le_bytes w16 (bytes_at 2 s at) ≡ word_at 2 s at
word_16 s at = word-sum 1 (bytes_at 2 s at) ∙ word_run 2 s at

pub word_32 : (s : List ℕ) (at : ℕ) → from_le_bytes w32 (bytes_at 4 s at) ≡ word_at 4 s at
word_32 s at = word-sum 3 (bytes_at 4 s at) ∙ word_run 4 s at

pub word_64 : (s : List ℕ) (at : ℕ) → from_le_bytes w64 (bytes_at 8 s at) ≡ word_at 8 s at
word_64 s at = word-sum 7 (bytes_at 8 s at) ∙ word_run 8 s at

-- byte i is the lowest once those below it are taken off
byte_is : (i v : ℕ) → byte_at i v ≡ v / 256 ^ i % 256
byte_is zero v = rw div-one
byte_is (suc i) v = refl

-- the bytes from i on are those of what is left then
bytes-low : (i k v : ℕ) → bytes_low_first i k v ≡ word_bytes k (v / 256 ^ i)
unfolding word_bytes
bytes-low i zero v = refl
bytes-low i (suc k) v =
    let e : v / 256 ^ i / 256 ≡ v / 256 ^ suc i = rw (pow-succ', mul_comm 256 (256 ^ i)) (div-div-eq-div-mul v (256 ^ i) 256) in
    rw (byte_is i v, bytes-low (suc i) k v, e)

-- the first bytes of a u64
pub first_bytes : (n v : ℕ) → n ≤ 8 → take n (to_le_bytes w64 v) ≡ word_bytes n v
first_bytes n v h = rw (bytes-low 0 8 v, div-one v) (take-word_bytes n 8 v h)
