-- A test that the library asks of every number of a range. Assumes nothing.
use Rattle.std.proofs.Common.{ℕ, zero, suc, ◌+◌, ◌≡◌, refl, ap, ◌∙◌, Bool, add-zero, arith}
use mathlib.Core.Path.{fun_ext}
use Rattle.std.specs.List.{list_all, range_with_len}
use Rattle.choice.specs.Search.{every}
use Rattle.choice.proofs.Tests.{by_test}
use Rattle.changes.proofs.Pairs.{every_first}

-- the n numbers from a on pass
all_from : (t : ℕ → Bool) (a n : ℕ) → list_all t (range_with_len a n) ≡ every (λ i. t (a + i)) n
unfolding every
all_from t a zero = refl
all_from t a (suc n) =
    let e : ◌≡◌ {A = ℕ → Bool} (λ i. t (a + 1 + i)) (λ i. t (a + suc i)) = fun_ext (λ i. ap t (omega arith)) in
    rw (all_from t (a + 1) n, e, every_first (λ i. t (a + i)) n, add-zero) (by_test (t a) (λ h. rw h) (λ h. rw h))

-- the numbers below n pass
pub all_below : (t : ℕ → Bool) (n : ℕ) → list_all t (range_with_len 0 n) ≡ every t n
all_below t n =
    let e : ◌≡◌ {A = ℕ → Bool} (λ i. t (0 + i)) t = fun_ext (λ i. ap t (omega arith)) in
    all_from t 0 n ∙ ap (λ (f : ℕ → Bool). every f n) e
