-- Neighbours of a list, as the library's windows of two give them, and the test that no two of them have one key. Assumes nothing.
use Rattle.std.proofs.Common.{ℕ, zero, suc, ◌-◌, ◌≡◌, refl, ap, ◌∙◌, Bool, List, [], ◌∷◌, arith, eqb, length, get_or, drop, take}
use Rattle.std.specs.List.{zip, list_any}
use Rattle.std.specs.Slice.Iter.{windows_rest, windows_size, windows_steps}
use Rattle.std.proofs.lemmas.Iterator.{YieldsList}
use Rattle.std.specs.Iterator.{AlwaysYields}
use Rattle.std.specs.declared.slice.Windows.{Windows}
use denote.Ref.{Bor}
use Rattle.choice.specs.Choice.{both}
use Rattle.choice.specs.Search.{every}
use Rattle.choice.proofs.Tests.{by_test}
use Rattle.changes.specs.Copies.{code_key, key_twice}
use Rattle.changes.proofs.Apart.{differs}

-- each number with the one behind it
abbrev pub pairs : List ℕ → List (ℕ × ℕ)
pairs xs = zip xs (drop 1 xs)

-- the two numbers of a window
abbrev pub both_of : Bor (List ℕ) → ℕ × ℕ
both_of w = (get_or w.now 0 0, get_or w.now 1 0)

-- windows of two give the neighbours
pairs-windows : (xs : List ℕ) (s : Windows ℕ) → windows_rest s ≡ xs → windows_size s ≡ 2 → AlwaysYields windows_steps both_of s (pairs xs)
pairs-windows [] s e f = λ x j m. absurd (omega (arith, m.1.0, ap length e))
pairs-windows (x ∷ []) s e f = λ w j m. absurd (omega (arith, m.1.0, ap length e))
pairs-windows (x ∷ (y ∷ ys)) s e f = (
  λ j m. absurd (omega (arith, m.1.0, ap length e)),
  λ w j m.
      let p : w.now ≡ take 2 (x ∷ (y ∷ ys)) = rw (e, f) at m.1.1 in
      (rw p refl, pairs-windows (y ∷ ys) j (rw e at m.1.2) (m.0 ∙ f)),
)

pub YieldsList-pairs : {s : Windows ℕ} (xs : List ℕ) → windows_rest s ≡ xs → windows_size s ≡ 2 → YieldsList windows_steps both_of s (pairs xs)
YieldsList-pairs {s} xs e f = record { runs = pairs-windows xs s e f }

-- a pair has one key
abbrev pub one_key : ℕ × ℕ → Bool
one_key p = eqb (code_key p.0) (code_key p.1)

-- the first of the indices, then the others
pub every_first : (t : ℕ → Bool) (n : ℕ) → every t (suc n) ≡ both (t 0) (every (λ i. t (suc i)) n)
unfolding every
every_first t zero = by_test (t 0) (λ e. rw e) (λ e. rw e)
every_first t (suc n) = rw (every_first t n) (by_test (t 0) (λ e. rw e) (λ e. rw e))

-- one of the pairs has one key
pub any_pair : (xs : List ℕ) → list_any one_key (pairs xs) ≡ key_twice xs
unfolding key_twice every
any_pair [] = refl
any_pair (x ∷ []) = refl
any_pair (x ∷ (y ∷ ys)) =
    let e : length (x ∷ (y ∷ ys)) - 1 ≡ suc (length (y ∷ ys) - 1) = omega arith in
    rw (e, every_first (differs (x ∷ (y ∷ ys))) (length (y ∷ ys) - 1), any_pair (y ∷ ys))
    (by_test (eqb (code_key x) (code_key y)) (λ t. rw t) (λ t. rw t))
