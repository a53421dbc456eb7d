-- The laws of choices by a test: a test passes or fails, and in each case the choice computes. Assumes nothing.
use Rattle.std.proofs.Common.{ℕ, ◌≡◌, refl, Bool, true, false, ◌⊎◌, inl, inr, arith}
use Rattle.choice.specs.Choice.{pick, both, either}

-- what holds where a test passes and where it fails, holds
pub by_test {ℓ} : {A : Type ℓ} (b : Bool) → (b ≡ true → A) → (b ≡ false → A) → A
by_test true f g = f refl
by_test false f g = g refl

-- no test both passes and fails
pub differ : (b : Bool) → b ≡ true → b ≡ false → ⊥
differ b p q = let z : ◌≡◌ {A = ℕ} 0 1 = cc in omega arith

-- a test that cannot pass fails
pub fails : (b : Bool) → (b ≡ true → ⊥) → b ≡ false
fails b h = by_test b (λ e. absurd (h e)) (λ e. e)

-- where both pass, each does
pub both_true : (x y : Bool) → both x y ≡ true → (x ≡ true) × (y ≡ true)
both_true true y e = (refl, e)
both_true false y e = absurd (differ false e refl)

-- where each passes, both do
pub both_intro : (x y : Bool) → x ≡ true → y ≡ true → both x y ≡ true
both_intro x y p q = rw (p, q)

-- where one of the two passes, the first does or the second does
pub either_true : (x y : Bool) → either x y ≡ true → (x ≡ true) ⊎ (y ≡ true)
either_true true y e = inl refl
either_true false y e = inr e

-- a test that passes picks the first
pub pick_true {ℓ} : {X : Type ℓ} (b : Bool) (x y : X) → b ≡ true → pick b x y ≡ x
pick_true b x y e = rw e

-- a test that fails picks the second
pub pick_false {ℓ} : {X : Type ℓ} (b : Bool) (x y : X) → b ≡ false → pick b x y ≡ y
pick_false b x y e = rw e
