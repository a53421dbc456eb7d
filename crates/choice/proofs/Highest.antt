-- The laws of the highest index at which a test passes. It is the lowest of the test in the other order, so each follows from a law of the lowest
-- by one law of that order. Assumes nothing.
use Rattle.std.proofs.Common.{ℕ, suc, ◌-◌, ◌≤◌, ◌<◌, ◌≡◌, sym, ap, ◌∙◌, Bool, true, false, arith, lt-ltb, le-ltb}
use Rattle.std.proofs.Math.Decide.{dec_lt}
use Rattle.choice.specs.Search.{lowest, from_top, below, highest}
use Rattle.choice.proofs.Tests.{differ}
use Rattle.choice.proofs.Lowest.{lowest-le, lowest_hits, lowest_misses, lowest_none, lowest_ext}

-- ---- the order

-- of n indices, k are above this one, and this many are above k
pub turned : (f : ℕ → Bool) (n j : ℕ) → j < n → from_top f n (n - suc j) ≡ f j
turned f n j l = let e : n - suc (n - suc j) ≡ j = omega arith in ap f e

module _ (f : ℕ → Bool) (n : ℕ) where
  -- so many are above the highest
  abbrev above : ℕ
  above = lowest (from_top f n) n

  -- where the test passes somewhere, it is the index with that many above it
  pub highest-below : above < n → highest f n ≡ n - suc above
  unfolding highest
  highest-below l = rw (lt-ltb above n l)

  -- where it passes nowhere, it is n
  highest_end : n ≤ above → highest f n ≡ n
  unfolding highest
  highest_end l = rw (le-ltb above n l)

  -- below n, so it is
  some_above : highest f n < n → above < n
  some_above l = elim (dec_lt above n) [ yes p ↦ p | no p ↦ absurd (omega (arith, highest_end (omega arith))) ]

  -- ---- what is found

  -- the highest is at most n
  pub highest-le : highest f n ≤ n
  highest-le =
      elim (dec_lt above n) [ yes p ↦ omega (arith, highest-below p) | no p ↦ omega (arith, highest_end (omega arith)) ]

  -- below n the test passes at the highest
  pub highest_hits : highest f n < n → f (highest f n) ≡ true
  highest_hits l = rw (highest-below (some_above l)) (lowest_hits (from_top f n) n (some_above l))

  -- the test fails above the highest, and everywhere where that is n
  pub highest_misses : (j : ℕ) → j < n → (highest f n < n → highest f n < j) → f j ≡ false
  highest_misses j l h =
      sym (turned f n j l)
      ∙ lowest_misses (from_top f n) n (n - suc j)
      (elim (dec_lt above n) [
        | yes p ↦ let e = highest-below p in omega (arith, h (omega arith))
        | no p ↦ omega (arith, lowest-le (from_top f n) n)
      ])

  -- where the test passes somewhere, the highest is below n
  pub highest_some : (j : ℕ) → j < n → f j ≡ true → highest f n < n
  highest_some j l e =
      elim (dec_lt (highest f n) n) [ yes p ↦ p | no p ↦ absurd (differ (f j) e (highest_misses j l (λ q. absurd (p q)))) ]

  -- where it passes nowhere, the highest is n
  pub highest_none : ((j : ℕ) → j < n → f j ≡ false) → highest f n ≡ n
  highest_none h = highest_end (omega (arith, lowest_none (from_top f n) n (λ k l. h (n - suc k) (omega arith))))

-- tests that agree below n have the same highest
pub highest_ext : (f g : ℕ → Bool) (n : ℕ) → ((j : ℕ) → j < n → f j ≡ g j) → highest f n ≡ highest g n
unfolding highest
highest_ext f g n h = ap (below n) (lowest_ext (from_top f n) (from_top g n) n (λ k l. h (n - suc k) (omega arith)))
