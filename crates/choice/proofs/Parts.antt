-- The laws of a search by parts: what the first part finds is found in all, and where the test fails in it the search goes on behind
-- it. Assumes nothing.
use Rattle.std.proofs.Common.{ℕ, zero, suc, ◌+◌, ◌-◌, ◌≤◌, ◌<◌, ◌≡◌, refl, sym, ◌∙◌, Bool, false, arith}
use Rattle.choice.specs.Search.{seek}
use Rattle.choice.proofs.Tests.{by_test}
use Rattle.choice.proofs.Lowest.{seek_misses}

-- tests that agree find the same
pub seek_ext : (f g : ℕ → Bool) (i k : ℕ) → ((j : ℕ) → f j ≡ g j) → seek f i k ≡ seek g i k
unfolding seek
seek_ext f g i zero h = refl
seek_ext f g i (suc k) h = rw (h i, seek_ext f g (suc i) k h)

-- the test fails at each of the m indices from i on: the search goes on behind them
seek_past : (f : ℕ → Bool) (i m n : ℕ) → ((j : ℕ) → i ≤ j → j < i + m → f j ≡ false) → seek f i (m + n) ≡ seek f (i + m) n
unfolding seek
seek_past f i zero n h =
    let e : zero + n ≡ n = omega arith in
    let d : i + zero ≡ i = omega arith in
    rw (e, d)
seek_past f i (suc m) n h =
    let e : suc m + n ≡ suc (m + n) = omega arith in
    let d : i + suc m ≡ suc i + m = omega arith in
    let t : f i ≡ false = h i (omega arith) (omega arith) in
    rw (e, d, t) (seek_past f (suc i) m n (λ j l k. h j (omega arith) (omega arith)))

-- what is found among the first m is found in all
seek_more : (f : ℕ → Bool) (i m n : ℕ) → seek f i m < i + m → seek f i (m + n) ≡ seek f i m
unfolding seek
seek_more f i zero n = λ l. absurd (omega arith)
seek_more f i (suc m) n =
    let e : suc m + n ≡ suc (m + n) = omega arith in
    by_test (f i) (λ t. rw (e, t) (λ l. refl)) (λ t. rw (e, t) (λ l. seek_more f (suc i) m n (omega arith)))

-- a search from i to n whose first part ends at e; `found` is what it finds
module _ (f : ℕ → Bool) (n i e : ℕ) {found : ℕ} (l : i ≤ e) (m : e ≤ n) (s : seek f i (n - i) ≡ found) where
  -- what the first part finds is found
  pub part_found : (r : ℕ) → r ≡ seek f i (e - i) → r < e → r ≡ found
  part_found r p q =
      let w : e - i + (n - e) ≡ n - i = omega arith in
      p ∙ sym (rw w at (seek_more f i (e - i) (n - e) (omega arith))) ∙ s

  -- the test fails in the first part: the search goes on behind it
  pub part_fails : ((j : ℕ) → i ≤ j → j < e → f j ≡ false) → seek f e (n - e) ≡ found
  part_fails h =
      let w : e - i + (n - e) ≡ n - i = omega arith in
      let v : i + (e - i) ≡ e = omega arith in
      sym (rw (w, v) at (seek_past f i (e - i) (n - e) (λ j a b. h j a (omega arith)))) ∙ s

  -- the first part finds nothing: the search goes on behind it
  pub part_ends : (r : ℕ) → r ≡ seek f i (e - i) → e ≤ r → seek f e (n - e) ≡ found
  part_ends r p q = part_fails (λ j a b. seek_misses f i (e - i) j a (omega arith))
