-- The sizes that a number is read and written in: a law holds at each where it holds at 1, 2, 4 and 8. Assumes nothing.
use Rattle.std.proofs.Common.{ℕ, ◌≤◌, ◌≡◌, true, ⊎_elim, arith, eqb-true, eqb}
use Rattle.choice.specs.Choice.{either}
use Rattle.choice.proofs.Tests.{either_true}
use Rattle.words.specs.Words.{is_size}

-- what holds at 1, 2, 4 and 8 holds at a size
pub by_size {ℓ} : {A : Type ℓ} (n : ℕ) → is_size n ≡ true → (n ≡ 1 → A) → (n ≡ 2 → A) → (n ≡ 4 → A) → (n ≡ 8 → A) → A
by_size n e f1 f2 f4 f8 =
    ⊎_elim (λ h. f1 (eqb-true n 1 h))
    (λ h.
    ⊎_elim (λ p. f2 (eqb-true n 2 p))
    (λ p. ⊎_elim (λ q. f4 (eqb-true n 4 q)) (λ q. f8 (eqb-true n 8 q)) (either_true (eqb n 4) (eqb n 8) p))
    (either_true (eqb n 2) (either (eqb n 4) (eqb n 8)) h))
    (either_true (eqb n 1) (either (eqb n 2) (either (eqb n 4) (eqb n 8))) e)

-- a size is 1 to 8
pub size_short : (n : ℕ) → is_size n ≡ true → (1 ≤ n) × (n ≤ 8)
size_short n e = by_size n e (λ f. omega arith) (λ f. omega arith) (λ f. omega arith) (λ f. omega arith)
