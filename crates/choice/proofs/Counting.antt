-- The laws of how many indices pass a test, each by the definition's recursion. Assumes nothing.
use Rattle.std.proofs.Common.{ℕ, zero, suc, ◌+◌, ◌-◌, ◌≤◌, ◌<◌, ◌≡◌, refl, sym, ap, Bool, true, false, ◌≢◌, add-one, arith}
use Rattle.std.proofs.Math.Decide.{dec_lt, ℕ_discrete}
use Rattle.choice.specs.Search.{lowest, count}
use Rattle.choice.proofs.Tests.{by_test}
use Rattle.choice.proofs.Lowest.{lowest_misses}

-- ---- the turns of a loop that looks at index i

module _ (f : ℕ → Bool) (i : ℕ) where
  -- the test passes at i: one more
  pub count_hit : f i ≡ true → count f (i + 1) ≡ count f i + 1
  unfolding count
  count_hit e = rw (add-one i, e) (omega arith)

  -- the test fails at i: as many
  pub count_pass : f i ≡ false → count f (i + 1) ≡ count f i
  unfolding count
  count_pass e = rw (add-one i, e)

-- ---- one test

-- a test that passes nowhere counts none
pub count_none : (f : ℕ → Bool) (n : ℕ) → ((j : ℕ) → j < n → f j ≡ false) → count f n ≡ 0
unfolding count
count_none f zero h = refl
count_none f (suc n) h = rw (h n (omega arith)) (count_none f n (λ j l. h j (omega arith)))

-- at most all n pass
pub count-le : (f : ℕ → Bool) (n : ℕ) → count f n ≤ n
unfolding count
count-le f zero = omega arith
count-le f (suc n) =
    let h : count f n ≤ n = count-le f n in
    by_test (f n) (λ e. rw e (omega arith)) (λ e. rw e (omega arith))

-- those below k, and those of the m behind them
count_add : (f : ℕ → Bool) (k m : ℕ) → count f (k + m) ≡ count f k + count (λ j. f (k + j)) m
unfolding count
count_add f k zero = let e : k + 0 ≡ k = omega arith in rw e (omega arith)
count_add f k (suc m) =
    let e : k + suc m ≡ suc (k + m) = omega arith in
    let h : count f (k + m) ≡ count f k + count (λ j. f (k + j)) m = count_add f k m in
    by_test (f (k + m)) (λ t. rw (e, t) (omega arith)) (λ t. rw (e, t) (omega arith))

-- those below k, and those from k on
pub count_split : (f : ℕ → Bool) (n k : ℕ) → k ≤ n → count f n ≡ count f k + count (λ j. f (k + j)) (n - k)
count_split f n k l = let e : k + (n - k) ≡ n = omega arith in rw e at (count_add f k (n - k))

-- of more indices no fewer pass
pub count_grows : (f : ℕ → Bool) (i n : ℕ) → i ≤ n → count f i ≤ count f n
count_grows f i n l = omega (arith, count_split f n i l)

module _ (f : ℕ → Bool) (n : ℕ) where
  -- where one passes, there is a lowest
  pub count_some : 1 ≤ count f n → lowest f n < n
  count_some h =
      elim (dec_lt (lowest f n) n) [
        | yes p ↦ p
        | no p ↦ absurd (omega (arith, count_none f n (λ j l. lowest_misses f n j (omega arith))))
      ]

-- ---- two tests

-- tests that agree below n count the same
pub count_ext : (f g : ℕ → Bool) (n : ℕ) → ((j : ℕ) → j < n → f j ≡ g j) → count f n ≡ count g n
unfolding count
count_ext f g zero h = refl
count_ext f g (suc n) h = rw (h n (omega arith), count_ext f g n (λ j l. h j (omega arith)))

-- a test that passes at one index more counts one more
pub count_more : (f g : ℕ → Bool) (n x : ℕ) → x < n → f x ≡ false → g x ≡ true → ((j : ℕ) → j ≢ x → g j ≡ f j) → count g n ≡ suc (count f n)
unfolding count
count_more f g zero x l e d h = absurd (omega arith)
count_more f g (suc n) x l e d h =
    elim (ℕ_discrete x n) [
      | yes z ↦ rw (← z, e, d) (ap suc (count_ext g f x (λ j m. h j (omega arith))))
      | no z ↦
          let c = count_more f g n x (omega arith) e d h in
          rw (h n (omega arith)) (by_test (f n) (λ t. rw t (ap suc c)) (λ t. rw t c))
    ]

-- a test that passes at one index less counts one less
pub count_less : (f g : ℕ → Bool) (n x : ℕ) → x < n → f x ≡ true → g x ≡ false → ((j : ℕ) → j ≢ x → g j ≡ f j) → suc (count g n) ≡ count f n
count_less f g n x l e d h = sym (count_more g f n x l d e (λ j m. sym (h j m)))
