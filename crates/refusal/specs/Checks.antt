-- Rules: "Numbers given back": tests in an order, of which the first that fails is the answer. Assumes nothing.
use Rattle.std.specs.Prelude.{ℕ, Bool, true, false, List, Result, Ok, Err}
use Rattle.refusal.specs.Numbers.{number_of, done}
use Rattle.refusal.specs.declared.Refusal.{Refusal}

-- what tests answer: they pass, or the first that fails refuses
abbrev pub Check : Type 0
Check = Result (Unit {0}) Refusal

-- the number of a check: 0, or the refusal's
abbrev pub check_number : Check → ℕ
check_number (Ok tt) = done
check_number (Err r) = number_of r

-- a check that passes where the test does, and else refuses
unfoldable pub need : Bool → Refusal → Check
need true r = Ok tt
need false r = Err r

-- one check, then another: the first refusal in order is the answer
unfoldable pub ◌then◌ : Check → Check → Check
Ok tt then d = d
Err r then d = Err r

infixr 30 ◌then◌
-- what a call leaves of a buffer, old and as it would write it: "Every number but 0 changes nothing"
abbrev pub or_keep : Check → List ℕ → List ℕ → List ℕ
or_keep (Ok tt) old new = new
or_keep (Err r) old new = old
