-- The laws of `picked`, the numbers at which a test passes: tests that agree pick the same, there are as many as pass, and a search finds
-- one after the other.
-- Assumes nothing.
use Rattle.std.proofs.Common.{◌≡◌, refl, sym, ap, ◌∙◌, Bool, true, [], ◌∷◌, ℕ, zero, suc, ◌+◌, ◌-◌, ◌≤◌, ◌<◌, add-zero, arith, length}
use Rattle.choice.specs.Choice.{pick}
use Rattle.choice.specs.Search.{seek, count, picked}
use Rattle.choice.proofs.Tests.{by_test}
use Rattle.choice.proofs.Counting.{count_ext, count_split}

-- tests that agree on the range pick the same
pub picked_ext : (f g : ℕ → Bool) (i k : ℕ) → ((j : ℕ) → j < i + k → f j ≡ g j) → picked f i k ≡ picked g i k
unfolding picked
picked_ext f g i zero h = refl
picked_ext f g i (suc k) h = rw (h i (omega arith), picked_ext f g (suc i) k (λ j l. h j (omega arith)))

-- those that pass the test: the first number, and those behind it
count_front : (f : ℕ → Bool) (k : ℕ) → count f (suc k) ≡ pick (f 0) (suc (count (λ j. f (1 + j)) k)) (count (λ j. f (1 + j)) k)
count_front f k =
    let z : suc k - 1 ≡ k = omega arith in
    let c : count f (suc k) ≡ count f 1 + count (λ j. f (1 + j)) k = rw z at (count_split f (suc k) 1 (omega arith)) in
    c ∙ unfold count in by_test (f 0) (λ e. rw e (omega arith)) (λ e. rw e (omega arith))

-- there are as many as pass the test
pub length-picked : (f : ℕ → Bool) (i k : ℕ) → length (picked f i k) ≡ count (λ j. f (i + j)) k
unfolding picked
length-picked f i zero = unfold count in refl
length-picked f i (suc k) =
    let r : length (picked f (suc i) k) ≡ count (λ j. f (i + (1 + j))) k =
    length-picked f (suc i) k
    ∙ count_ext (λ j. f (suc i + j)) (λ j. f (i + (1 + j))) k (λ j l. let e : suc i + j ≡ i + (1 + j) = omega arith in rw e) in
    by_test (f i) (λ e. rw e (ap suc r)) (λ e. rw e r) ∙ sym (rw add-zero at (count_front (λ j. f (i + j)) k))

-- ---- from one that passes to the next

-- those from i on are those from the first that passes on
picked_from : (f : ℕ → Bool) (i k : ℕ) → picked f (seek f i k) (i + k - seek f i k) ≡ picked f i k
unfolding picked seek
picked_from f i zero = let e : i + 0 - i ≡ 0 = omega arith in rw e
picked_from f i (suc k) =
    by_test (f i) (λ t. rw t (let e : i + suc k - i ≡ suc k = omega arith in rw (e, t)))
    (λ t. rw t (let e : i + suc k ≡ suc i + k = omega arith in rw e (picked_from f (suc i) k)))

module _ (f : ℕ → Bool) (i n : ℕ) where
  -- a search from i on skips none that passes
  pub picked-seek : {r : ℕ} → i ≤ n → r ≡ seek f i (n - i) → picked f r (n - r) ≡ picked f i (n - i)
  picked-seek l e = let w : i + (n - i) ≡ n = omega arith in rw e (rw w at (picked_from f i (n - i)))

  -- one that passes is the first of those from it on
  pub picked_hit : i < n → f i ≡ true → picked f i (n - i) ≡ i ∷ picked f (i + 1) (n - (i + 1))
  unfolding picked
  picked_hit l t = let e : n - i ≡ suc (n - (i + 1)) = omega arith in let s : i + 1 ≡ suc i = omega arith in rw (e, t, s)

  -- behind the last there is none
  pub picked_end : n ≤ i → picked f i (n - i) ≡ []
  unfolding picked
  picked_end l = let e : n - i ≡ 0 = omega arith in rw e
