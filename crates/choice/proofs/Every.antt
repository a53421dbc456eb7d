-- The laws of a test that every number below a bound passes, each by the definition's recursion. Assumes nothing.
use Rattle.std.proofs.Common.{ℕ, zero, suc, ◌+◌, ◌<◌, ◌≡◌, refl, Bool, true, false, add-one, arith}
use Rattle.std.proofs.Math.Decide.{ℕ_discrete}
use Rattle.choice.specs.Search.{every}
use Rattle.choice.proofs.Tests.{by_test, both_true, both_intro}

-- one more passes
pub every_turn : (t : ℕ → Bool) (i : ℕ) → every t i ≡ true → t i ≡ true → every t (i + 1) ≡ true
unfolding every
every_turn t i h e = rw add-one (both_intro (every t i) (t i) h e)

-- where one fails, not every one passes
pub every_fails : (t : ℕ → Bool) (n i : ℕ) → i < n → t i ≡ false → every t n ≡ false
unfolding every
every_fails t zero i l e = absurd (omega arith)
every_fails t (suc n) i l e =
    elim (ℕ_discrete i n) [
      | yes p ↦ rw (← p, e) (by_test (every t i) (λ h. rw h) (λ h. rw h))
      | no p ↦ rw (every_fails t n i (omega arith) e)
    ]

-- where every one passes, each does
pub every_at : (t : ℕ → Bool) (n i : ℕ) → every t n ≡ true → i < n → t i ≡ true
unfolding every
every_at t zero i h l = absurd (omega arith)
every_at t (suc n) i h l =
    let b = both_true (every t n) (t n) h in
    elim (ℕ_discrete i n) [ yes p ↦ rw p b.1 | no p ↦ every_at t n i b.0 (omega arith) ]

-- where each passes, every one does
pub every_all : (t : ℕ → Bool) (n : ℕ) → ((i : ℕ) → i < n → t i ≡ true) → every t n ≡ true
unfolding every
every_all t zero h = refl
every_all t (suc n) h = both_intro (every t n) (t n) (every_all t n (λ i l. h i (omega arith))) (h n (omega arith))
