-- The laws of runs of bytes: `bytes_at`, read from a list, and `zeros`. Assumes nothing.
use Rattle.std.proofs.Common.{◌≡◌, refl, sym, ap, ◌∙◌, List, ◌++◌, ℕ, zero, suc, ◌+◌, ◌≤◌, ◌<◌, add-zero, add-suc, suc-add, zero-add, arith, get_or, length, ext_get_or}
use Rattle.std.proofs.Math.ListN.{get_or-eq_default}
use Rattle.std.proofs.Math.Seq.{set-get_or}
use Rattle.words.specs.Words.{splice, bytes_at, zeros}
use Rattle.words.proofs.Splice.{length-splice, splice_before, splice_behind, splice_in}

-- a run is as long as asked
pub length-bytes_at : (n : ℕ) (s : List ℕ) (at : ℕ) → length (bytes_at n s at) ≡ n
unfolding bytes_at
length-bytes_at zero s at = refl
length-bytes_at (suc n) s at = ap suc (length-bytes_at n s (suc at))

-- a byte of a run
pub get_or-bytes_at : (n : ℕ) (s : List ℕ) (at k : ℕ) → k < n → get_or (bytes_at n s at) k 0 ≡ get_or s (at + k) 0
unfolding bytes_at
get_or-bytes_at zero s at k h = absurd (omega arith)
get_or-bytes_at (suc n) s at zero h = rw add-zero
get_or-bytes_at (suc n) s at (suc k) h = rw (add-suc, ← suc-add) (get_or-bytes_at n s (suc at) k (omega arith))

-- a list is a run where it is as long and has its bytes
pub run_is : (n : ℕ) (s : List ℕ) (at : ℕ) (t : List ℕ) → length t ≡ n → ((k : ℕ) → k < n → get_or s (at + k) 0 ≡ get_or t k 0) → bytes_at n s at ≡ t
run_is n s at t l h =
    ext_get_or 0 (bytes_at n s at) t (length-bytes_at n s at ∙ sym l)
    (λ k b. let m : k < n = omega (arith, length-bytes_at n s at) in get_or-bytes_at n s at k m ∙ h k m)

-- a run is what its bytes are
pub bytes_at_ext : (n : ℕ) (s t : List ℕ) (a b : ℕ) → ((k : ℕ) → k < n → get_or s (a + k) 0 ≡ get_or t (b + k) 0) → bytes_at n s a ≡ bytes_at n t b
bytes_at_ext n s t a b h = run_is n s a (bytes_at n t b) (length-bytes_at n t b) (λ k m. h k m ∙ sym (get_or-bytes_at n t b k m))

-- a run before a write is as it was
pub run_before : (n : ℕ) (s : List ℕ) (at : ℕ) (bs : List ℕ) (j : ℕ) → j + n ≤ at → bytes_at n (splice s at bs) j ≡ bytes_at n s j
run_before n s at bs j h = bytes_at_ext n (splice s at bs) s j j (λ k l. splice_before s at bs (j + k) (omega arith))

-- a run behind a write is as it was
pub run_behind : (n : ℕ) (s : List ℕ) (at : ℕ) (bs : List ℕ) (j : ℕ) → at + length bs ≤ j → bytes_at n (splice s at bs) j ≡ bytes_at n s j
run_behind n s at bs j h = bytes_at_ext n (splice s at bs) s j j (λ k l. splice_behind s at bs (j + k) (omega arith))

-- what was put in, read back
pub run_back : (s : List ℕ) (at : ℕ) (bs : List ℕ) → at + length bs ≤ length s → bytes_at (length bs) (splice s at bs) at ≡ bs
run_back s at bs l = run_is (length bs) (splice s at bs) at bs refl (λ k m. splice_in s at bs k m l)

-- what is there, put in again
pub run_same : (n : ℕ) (s : List ℕ) (at : ℕ) → splice s at (bytes_at n s at) ≡ s
unfolding splice bytes_at
run_same zero s at = refl
run_same (suc n) s at = ap (λ (l : List ℕ). splice l (suc at) (bytes_at n s (suc at))) (set-get_or s at 0) ∙ run_same n s (suc at)

-- a run of a run
pub run-run : (n m : ℕ) (s : List ℕ) (at k : ℕ) → k + n ≤ m → bytes_at n (bytes_at m s at) k ≡ bytes_at n s (at + k)
run-run n m s at k h =
    bytes_at_ext n (bytes_at m s at) s k (at + k)
    (λ j l. let e : at + k + j ≡ at + (k + j) = omega arith in rw e (get_or-bytes_at m s at (k + j) (omega arith)))

-- the run of everything
pub run_all : (s : List ℕ) → bytes_at (length s) s 0 ≡ s
run_all s = run_is (length s) s 0 s refl (λ k h. rw zero-add)

-- a run is its front, then the rest
pub run-append : (m n : ℕ) (s : List ℕ) (at : ℕ) → bytes_at (m + n) s at ≡ bytes_at m s at ++ bytes_at n s (at + m)
unfolding bytes_at
run-append zero n s at = rw (zero-add, add-zero)
run-append (suc m) n s at = rw (suc-add, add-suc, ← suc-add, run-append m n s (suc at))

-- so many zeros as asked
pub length-zeros : (n : ℕ) → length (zeros n) ≡ n
unfolding zeros
length-zeros zero = refl
length-zeros (suc n) = ap suc (length-zeros n)

-- every byte of zeros is 0, and so is every byte past them
pub get_or-zeros : (n k : ℕ) → get_or (zeros n) k 0 ≡ 0
unfolding zeros
get_or-zeros zero k = refl
get_or-zeros (suc n) zero = refl
get_or-zeros (suc n) (suc k) = get_or-zeros n k

-- a run past the end is zeros
pub run_past : (n : ℕ) (s : List ℕ) (at : ℕ) → length s ≤ at → bytes_at n s at ≡ zeros n
run_past n s at h =
    run_is n s at (zeros n) (length-zeros n) (λ k l. get_or-eq_default s 0 (omega arith) ∙ sym (get_or-zeros n k))

-- bytes for the whole of a list replace it
pub splice_whole : (s bs : List ℕ) → length bs ≡ length s → splice s 0 bs ≡ bs
splice_whole s bs h =
    let e : length (splice s 0 bs) ≡ length bs = length-splice s 0 bs ∙ sym h in
    rw e at (sym (run_all (splice s 0 bs))) ∙ run_back s 0 bs (omega arith)
