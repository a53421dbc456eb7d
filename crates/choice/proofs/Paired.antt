-- Two tests count the same where what passes one is paired off with what passes the other; two tests that never both pass add up.
-- Assumes nothing.
use Rattle.std.proofs.Common.{ℕ, zero, suc, ◌+◌, ◌<◌, ◌≡◌, refl, sym, ap, ◌∙◌, Bool, true, false, arith, ltb, ltb-true, lt-ltb}
use Rattle.std.proofs.Math.Decide.{ℕ_discrete}
use Rattle.choice.specs.Choice.{both, either}
use Rattle.choice.specs.Search.{count}
use Rattle.choice.proofs.Tests.{by_test, differ, both_true}
use Rattle.choice.proofs.Counting.{count_none, count_ext, count_more}

-- ---- pairs

-- a test passes at one index below m
pub record One (f : ℕ → Bool) (m : ℕ) : Type 0 where
  pub at : ℕ
  pub below : at < m
  pub passes : f at ≡ true
  pub only : (i : ℕ) → i < m → f i ≡ true → i ≡ at

-- index i is paired with a number below n that passes u
pub record Pair (u : ℕ → Bool) (q : ℕ → ℕ → Bool) (n i : ℕ) : Type 0 where
  pub number : ℕ
  pub below : number < n
  pub passes : u number ≡ true
  pub paired : q number i ≡ true

-- q pairs the numbers below n that pass u with the indices below m that pass t
pub record Paired (t u : ℕ → Bool) (q : ℕ → ℕ → Bool) (m n : ℕ) : Type 0 where
  pub one : (k : ℕ) → k < n → u k ≡ true → One (q k) m
  pub apart : (i j k : ℕ) → j < n → k < n → q j i ≡ true → q k i ≡ true → j ≡ k
  pub some : (i : ℕ) → i < m → t i ≡ true → Pair u q n i
  pub back : (i k : ℕ) → k < n → q k i ≡ true → t i ≡ true

-- ---- the indices of the numbers done

-- one of the first n numbers is paired with i
unfoldable any : (ℕ → ℕ → Bool) → ℕ → ℕ → Bool
any w zero i = false
any w (suc n) i = either (w n i) (any w n i)

module _ (w : ℕ → ℕ → Bool) where
  -- number k is
  any_true : (n k i : ℕ) → k < n → w k i ≡ true → any w n i ≡ true
  unfolding any
  any_true zero k i l h = absurd (omega arith)
  any_true (suc n) k i l h =
      elim (ℕ_discrete k n) [
        | yes e ↦ let z : w n i ≡ true = rw (← e) h in rw z
        | no d ↦ let z : any w n i ≡ true = any_true n k i (omega arith) h in by_test (w n i) (λ t. rw t) (λ t. rw (t, z))
      ]

  -- none is
  any_false : (n i : ℕ) → ((k : ℕ) → k < n → w k i ≡ true → ⊥) → any w n i ≡ false
  unfolding any
  any_false zero i h = refl
  any_false (suc n) i h =
      by_test (w n i) (λ t. absurd (h n (omega arith) t)) (λ t. rw t (any_false n i (λ k l. h k (omega arith))))

-- number k passes u and is paired with i, which is below m
abbrev pairs : (ℕ → Bool) → (ℕ → ℕ → Bool) → ℕ → ℕ → ℕ → Bool
pairs u q m k i = both (u k) (both (ltb i m) (q k i))

module _ (u : ℕ → Bool) (q : ℕ → ℕ → Bool) (m : ℕ) where
  -- such a pair, by its parts
  record Parts (k i : ℕ) : Type 0 where
    passes : u k ≡ true
    below : i < m
    paired : q k i ≡ true

  pair_parts : (k i : ℕ) → pairs u q m k i ≡ true → Parts k i
  pair_parts k i h =
      let s = both_true (u k) _ h in
      let t = both_true (ltb i m) _ s.1 in
      record { passes = s.0; below = ltb-true i m t.0; paired = t.1 }

  parts_pair : (k i : ℕ) → Parts k i → pairs u q m k i ≡ true
  parts_pair k i p = rw (p.passes, lt-ltb i m p.below, p.paired)

  -- as many indices as numbers
  count_any : (n : ℕ) → ((k : ℕ) → k < n → u k ≡ true → One (q k) m) → ((i j k : ℕ) → j < n → k < n → q j i ≡ true → q k i ≡ true → j ≡ k)
      → count (any (pairs u q m) n) m ≡ count u n
  unfolding any count
  count_any zero one apart = count_none (any (pairs u q m) 0) m (λ j l. refl)
  count_any (suc n) one apart =
      let before : count (any (pairs u q m) n) m ≡ count u n =
      count_any n (λ k l. one k (omega arith)) (λ i j k l b. apart i j k (omega arith) (omega arith)) in
      by_test (u n)
      (λ e.
      let o : One (q n) m = one n (omega arith) e in
      let z : pairs u q m n o.at ≡ true = parts_pair n o.at (record { passes = e; below = o.below; paired = o.passes }) in
      count_more (any (pairs u q m) n) (any (pairs u q m) (suc n)) m o.at o.below
      (any_false (pairs u q m) n o.at
      (λ k l h. let y : k ≡ n = apart o.at k n (omega arith) (omega arith) (pair_parts k o.at h).paired o.passes in omega arith))
      (any_true (pairs u q m) (suc n) n o.at (omega arith) z)
      (λ j d.
      by_test (pairs u q m n j) (λ t. absurd (d (o.only j (pair_parts n j t).below (pair_parts n j t).paired))) (λ t. rw t))
      ∙ rw e (ap suc before))
      (λ e. rw e (count_ext (any (pairs u q m) (suc n)) (any (pairs u q m) n) m (λ i l. rw e) ∙ before))

-- what is paired off is as many
pub count_paired : {t u : ℕ → Bool} {q : ℕ → ℕ → Bool} {m n : ℕ} → Paired t u q m n → count t m ≡ count u n
count_paired {t} {u} {q} {m} {n} p =
    count_ext t (any (pairs u q m) n) m
    (λ i l.
    by_test (t i)
    (λ e.
    let s : Pair u q n i = p.some i l e in
    e ∙ sym (any_true (pairs u q m) n s.number i s.below (parts_pair u q m s.number i (record { passes = s.passes; below = l; paired = s.paired }))))
    (λ e. e ∙ sym (any_false (pairs u q m) n i (λ k b h. differ (t i) (p.back i k b (pair_parts u q m k i h).paired) e))))
    ∙ count_any u q m n p.one p.apart

-- a test that always passes counts all
pub count_all : (n : ℕ) → count (λ k. true) n ≡ n
unfolding count
count_all zero = refl
count_all (suc n) = ap suc (count_all n)

-- ---- sums

-- of two tests that never both pass, as many pass one or the other as pass each
pub count-either : (f g : ℕ → Bool) (n : ℕ) → ((j : ℕ) → f j ≡ true → g j ≡ false) → count (λ j. either (f j) (g j)) n ≡ count f n + count g n
unfolding count
count-either f g zero h = refl
count-either f g (suc n) h =
    let e : count (λ j. either (f j) (g j)) n ≡ count f n + count g n = count-either f g n h in
    by_test (f n) (λ t. rw (t, h n t) (omega arith))
    (λ t. by_test (g n) (λ s. rw (t, s) (omega arith)) (λ s. rw (t, s) (omega arith)))
