-- An answer of translation is a place or a refusal, and its number tells which. Assumes nothing.
use Rattle.std.proofs.Common.{ℕ, ◌≡◌, refl, arith, eq-eqb}
use Rattle.choice.proofs.Tests.{differ}
use Rattle.refusal.specs.Numbers.{done}
use Rattle.refusal.specs.declared.Refusal.{Refusal}
use Rattle.refusal.proofs.Checks.{refusal_number}
use Rattle.translate.specs.Place.{number_of_answer, Translation}
use Rattle.translate.specs.declared.place.Place.{Place}
use Rattle.std.specs.Prelude.{Err, Ok}

-- an answer is one place
pub one_place : {x y : Place} → ◌≡◌ {A = Translation} (Ok x) (Ok y) → x ≡ y
one_place e = cc

-- a refusal is no place
pub refused_not : {r : Refusal} {x : Place} → ◌≡◌ {A = Translation} (Err r) (Ok x) → ⊥
refused_not e = let z : ◌≡◌ {A = ℕ} 0 1 = cc in omega arith

-- an answer with the number 0 is a place
pub allowed : {A : Type 0} (t : Translation) → number_of_answer t ≡ done → ((q : Place) → t ≡ Ok q → A) → A
allowed (Ok q) e f = f q refl
allowed (Err r) e f = absurd (differ _ (eq-eqb _ _ e) (refusal_number r))
