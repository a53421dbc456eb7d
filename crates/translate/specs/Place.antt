-- Rules: "Order for an access": what translation answers, and what an access answers besides a value. Assumes nothing.
use Rattle.std.specs.Prelude.{ℕ, Result, Ok, Err}
use Rattle.refusal.specs.Numbers.{number_of, distance_of, done}
use Rattle.refusal.specs.Checks.{Check}
use Rattle.refusal.specs.declared.Refusal.{Refusal}
use Rattle.translate.specs.declared.place.Place.{Place}

-- a place, or the first refusal in order
abbrev pub Translation : Type 0
Translation = Result Place Refusal

-- the number of each answer: 0, or the refusal's
abbrev pub number_of_answer : {A : Type 0} → Result A Refusal → ℕ
number_of_answer (Ok q) = done
number_of_answer (Err r) = number_of r

-- the distance of each answer: 0, or the refusal's
abbrev pub distance_of_answer : {A : Type 0} → Result A Refusal → ℕ
distance_of_answer (Ok q) = 0
distance_of_answer (Err r) = distance_of r

-- the number of an access, and its distance
pub record Outcome : Type 0 where
  pub number : ℕ
  pub distance : ℕ

-- what an access answers besides a value
abbrev pub outcome_of : {A : Type 0} → Result A Refusal → Outcome
outcome_of t = record { number = number_of_answer t; distance = distance_of_answer t }

-- whether an access is allowed, or its refusal: the answer of one that gives no value
abbrev pub accepted : {A : Type 0} → Result A Refusal → Check
accepted (Ok q) = Ok tt
accepted (Err r) = Err r

-- what follows where the check passes, else its refusal
abbrev pub refusing : Check → Translation → Translation
refusing (Ok tt) t = t
refusing (Err r) t = Err r
