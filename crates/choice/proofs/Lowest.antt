-- The laws of the lowest index at which a test passes: by the definition's recursion it passes there and fails below, and
-- whatever does both is the lowest. Assumes nothing.
use Rattle.std.proofs.Common.{ℕ, zero, suc, ◌+◌, ◌-◌, ◌≤◌, ◌<◌, ◌≡◌, sym, ◌∙◌, Bool, true, false, arith}
use Rattle.std.proofs.Math.Decide.{dec_lt}
use Rattle.choice.specs.Search.{seek, lowest}
use Rattle.choice.proofs.Tests.{by_test, differ}

-- ---- the turns of a loop that looks at index i

-- the test passes at i: the search ends there
pub seek_hit : (f : ℕ → Bool) (i n : ℕ) → i < n → f i ≡ true → seek f i (n - i) ≡ i
unfolding seek
seek_hit f i n l e = let m : n - i ≡ suc (n - suc i) = omega arith in rw (m, e)

-- the test fails at i: the search goes on behind it
pub seek_miss : (f : ℕ → Bool) (i n : ℕ) → i < n → f i ≡ false → seek f (i + 1) (n - (i + 1)) ≡ seek f i (n - i)
unfolding seek
seek_miss f i n l e =
    let m : n - i ≡ suc (n - (i + 1)) = omega arith in
    let s : i + 1 ≡ suc i = omega arith in
    rw (m, e, s)

-- nothing is left to look at
pub seek_end : (f : ℕ → Bool) (i n : ℕ) → n ≤ i → seek f i (n - i) ≡ i
unfolding seek
seek_end f i n l = let m : n - i ≡ 0 = omega arith in rw m

-- ---- what is found

-- it is at most the end of what is looked at
pub seek-le : (f : ℕ → Bool) (i k : ℕ) → seek f i k ≤ i + k
unfolding seek
seek-le f i zero = omega arith
seek-le f i (suc k) =
    by_test (f i) (λ e. rw e (omega arith)) (λ e. rw e (omega (arith, seek-le f (suc i) k)))

-- and at least the start
pub seek-ge : (f : ℕ → Bool) (i k : ℕ) → i ≤ seek f i k
unfolding seek
seek-ge f i zero = omega arith
seek-ge f i (suc k) =
    by_test (f i) (λ e. rw e (omega arith)) (λ e. rw e (omega (arith, seek-ge f (suc i) k)))

-- the test passes there
pub seek_hits : (f : ℕ → Bool) (i k : ℕ) → seek f i k < i + k → f (seek f i k) ≡ true
unfolding seek
seek_hits f i zero = λ l. absurd (omega arith)
seek_hits f i (suc k) =
    by_test (f i) (λ e. rw e (λ l. e)) (λ e. rw e (λ l. seek_hits f (suc i) k (omega arith)))

-- and fails at each index before it
pub seek_misses : (f : ℕ → Bool) (i k j : ℕ) → i ≤ j → j < seek f i k → f j ≡ false
unfolding seek
seek_misses f i zero j m = λ l. absurd (omega arith)
seek_misses f i (suc k) j m =
    by_test (f i) (λ e. rw e (λ l. absurd (omega arith)))
    (λ e.
    rw e
    (λ l. elim (dec_lt i j) [ yes p ↦ seek_misses f (suc i) k j p l | no p ↦ let q : j ≡ i = omega arith in rw q e ]))

module _ (f : ℕ → Bool) (n : ℕ) where
  -- the lowest is at most n
  pub lowest-le : lowest f n ≤ n
  lowest-le = omega (arith, seek-le f 0 n)

  -- below n the test passes at the lowest
  pub lowest_hits : lowest f n < n → f (lowest f n) ≡ true
  lowest_hits l = seek_hits f 0 n (omega arith)

  -- the test fails below the lowest
  pub lowest_misses : (j : ℕ) → j < lowest f n → f j ≡ false
  lowest_misses j l = seek_misses f 0 n j (omega arith) l

  -- where the test passes somewhere, the lowest is below n
  pub lowest_some : (j : ℕ) → j < n → f j ≡ true → lowest f n < n
  lowest_some j l e =
      elim (dec_lt (lowest f n) n) [ yes p ↦ p | no p ↦ absurd (differ (f j) e (lowest_misses j (omega arith))) ]

  -- where it passes nowhere, the lowest is n
  pub lowest_none : ((j : ℕ) → j < n → f j ≡ false) → lowest f n ≡ n
  lowest_none h =
      elim (dec_lt (lowest f n) n) [
        | yes p ↦ absurd (differ (f (lowest f n)) (lowest_hits p) (h (lowest f n) p))
        | no p ↦ omega (arith, lowest-le)
      ]

  -- an index at which the test passes, and below which it fails, is the lowest
  pub lowest_is : (i : ℕ) → i < n → f i ≡ true → ((j : ℕ) → j < i → f j ≡ false) → lowest f n ≡ i
  lowest_is i l e h =
      elim (dec_lt (lowest f n) i) [
        | yes p ↦ absurd (differ (f (lowest f n)) (lowest_hits (omega arith)) (h (lowest f n) p))
        | no p ↦
            elim (dec_lt i (lowest f n)) [
              | yes q ↦ absurd (differ (f i) e (lowest_misses i q))
              | no q ↦ omega arith
            ]
      ]

-- ---- two tests

-- tests that agree below n have the same lowest
pub lowest_ext : (f g : ℕ → Bool) (n : ℕ) → ((j : ℕ) → j < n → f j ≡ g j) → lowest f n ≡ lowest g n
lowest_ext f g n h =
    elim (dec_lt (lowest g n) n) [
      | yes p ↦
          lowest_is f n (lowest g n) p (h (lowest g n) p ∙ lowest_hits g n p)
          (λ j l. h j (omega arith) ∙ lowest_misses g n j l)
      | no p ↦
          let e : lowest g n ≡ n = omega (arith, lowest-le g n) in
          lowest_none f n (λ j l. h j l ∙ lowest_misses g n j (omega arith)) ∙ sym e
    ]
