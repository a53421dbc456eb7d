-- The laws of what a search of the frame table finds: the first index that passes a test, or nothing where none does.
-- Assumes nothing.
use Rattle.std.proofs.Common.{◌≡◌, sym, ap, Bool, true, false, ℕ, ◌<◌, le_refl, arith, ltb, ltb-true, ltb-false, lt-ltb, le-ltb}
use Rattle.choice.specs.Search.{lowest}
use Rattle.choice.proofs.Tests.{by_test}
use Rattle.choice.proofs.Lowest.{lowest_hits, lowest_misses, lowest_none, lowest_is}
use Rattle.pages.specs.declared.Frame.{Frame}
use Rattle.frames.specs.Table.{found_in}
use Rattle.std.specs.Prelude.{None, Some}

-- i is the first index below n that passes the test
pub record First (t : ℕ → Bool) (n i : ℕ) : Type 0 where
  pub below : i < n
  pub passes : t i ≡ true
  pub before : (j : ℕ) → j < i → t j ≡ false

-- what is found is the index, which is below n
pub found_at : (n i : ℕ) (f : Frame) → found_in n i ≡ Some f → (f.0 ≡ i) × (i < n)
unfolding found_in
found_at n i f h =
    by_test (ltb i n)
    (λ e. let z : Some (record { 0 = i }) ≡ Some f = rw e at h in let y : record { 0 = i } ≡ f = cc in (ap (λ (x : Frame). x.0) (sym y), ltb-true i n e))
    (λ e. let z : None ≡ Some f = rw e at h in let y : ◌≡◌ {A = ℕ} 0 1 = cc in absurd (omega arith))

module _ (t : ℕ → Bool) (n : ℕ) where
  -- the lowest, where it is below n, is the first
  pub lowest_first : lowest t n < n → First t n (lowest t n)
  lowest_first l = record { below = l; passes = lowest_hits t n l; before = lowest_misses t n }

  -- what is found is the first
  pub at_first : (f : Frame) → found_in n (lowest t n) ≡ Some f → First t n f.0
  at_first f h = let x = found_at n (lowest t n) f h in rw x.0 (lowest_first x.1)

  -- where nothing is found, none passes
  pub nothing_none : found_in n (lowest t n) ≡ None → (j : ℕ) → j < n → t j ≡ false
  unfolding found_in
  nothing_none h j l =
      by_test (ltb (lowest t n) n)
      (λ e.
      let z : Some (record { 0 = lowest t n }) ≡ None = rw e at h in let y : ◌≡◌ {A = ℕ} 0 1 = cc in absurd (omega arith))
      (λ e. lowest_misses t n j (omega (arith, ltb-false (lowest t n) n e)))

  -- the first is found
  pub first_at : (i : ℕ) → First t n i → found_in n (lowest t n) ≡ Some (record { 0 = i })
  unfolding found_in
  first_at i f = rw (lowest_is t n i f.below f.passes f.before, lt-ltb i n f.below)

  -- where none passes, nothing is found
  pub none_nothing : ((j : ℕ) → j < n → t j ≡ false) → found_in n (lowest t n) ≡ None
  unfolding found_in
  none_nothing h = rw (lowest_none t n h, le-ltb n n (le_refl n))
