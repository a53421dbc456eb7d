-- The depth at which a page was grown: the lowest whose size reaches above it. It stays where those sizes stay. Assumes nothing.
use Rattle.std.proofs.Common.{ℕ, suc, ◌≤◌, ◌<◌, ◌≡◌, ◌∙◌, List, arith, ltb-true, ltb-false, lt-ltb, le-ltb}
use Rattle.std.proofs.Math.Decide.{dec_lt}
use Rattle.choice.proofs.Lowest.{lowest_hits, lowest_misses, lowest_is}
use Rattle.control.specs.Control.{invocations, size_in}
use Rattle.control.specs.declared.shadow.Region.{Region}
use Rattle.lifecycle.specs.Regions.{reaches, grown_at}

module _ (c : List ℕ) (r : Region) (k : ℕ) where
  -- no size at a lesser depth reaches above the page
  pub grown_misses : (j : ℕ) → j < grown_at c r k → size_in c r (suc j) ≤ k
  unfolding grown_at
  grown_misses j l = ltb-false k (size_in c r (suc j)) (lowest_misses (reaches c r k) (invocations c) j l)

  -- the size at its depth does
  pub grown_hits : grown_at c r k < invocations c → k < size_in c r (suc (grown_at c r k))
  unfolding grown_at
  grown_hits l = ltb-true k (size_in c r (suc (grown_at c r k))) (lowest_hits (reaches c r k) (invocations c) l)

  -- a depth whose size reaches above it is at least its depth
  pub grown-le : (j : ℕ) → k < size_in c r (suc j) → grown_at c r k ≤ j
  grown-le j h = elim (dec_lt j (grown_at c r k)) [ yes p ↦ absurd (omega (arith, grown_misses j p)) | no p ↦ omega arith ]

  -- the depth whose size reaches above it, where no lesser one does
  pub grown_is : (j : ℕ) → j < invocations c → k < size_in c r (suc j) → ((i : ℕ) → i < j → size_in c r (suc i) ≤ k) → grown_at c r k ≡ j
  unfolding grown_at
  grown_is j l h o =
      lowest_is (reaches c r k) (invocations c) j l (lt-ltb k (size_in c r (suc j)) h)
      (λ i m. le-ltb k (size_in c r (suc i)) (o i m))

  -- it stays where the records up to it reach above the page as before
  pub grown_kept : (c' : List ℕ) → grown_at c r k < invocations c → grown_at c r k < invocations c'
      → ((j : ℕ) → j ≤ grown_at c r k → reaches c' r k j ≡ reaches c r k j) → grown_at c' r k ≡ grown_at c r k
  unfolding grown_at
  grown_kept c' l m h =
      lowest_is (reaches c' r k) (invocations c') (grown_at c r k) m
      (h (grown_at c r k) (omega arith) ∙ lowest_hits (reaches c r k) (invocations c) l)
      (λ j b. h j (omega arith) ∙ lowest_misses (reaches c r k) (invocations c) j b)
