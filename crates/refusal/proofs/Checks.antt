-- A check passes or stops. A chain of checks that passes: each of its tests passed. One that stops: at the first test that fails. No refusal
-- has the number 0. Assumes nothing.
use Rattle.std.proofs.Common.{◌≡◌, refl, Bool, true, false, ℕ, eqb, arith}
use Rattle.choice.proofs.Tests.{differ}
use Rattle.refusal.specs.Numbers.{number_of, done}
use Rattle.refusal.specs.Checks.{need, ◌then◌, check_number, Check}
use Rattle.refusal.specs.declared.Refusal.{Refusal}
use Rattle.refusal.specs.declared.Refusal.TheVariants.{Invalid, BadRequest, BadAddress, NoSegment, Misaligned, Crossing, NotPermitted, NoFrame, DepthLimit, TooManyPages, ShortOutput, BadList, Absent, BadRecord}
use Rattle.std.specs.Prelude.{Err, Ok}

-- a refusal is no pass
pub stop≢pass : {r : Refusal} → ◌≡◌ {A = Check} (Err r) (Ok tt) → ⊥
stop≢pass e = let z : ◌≡◌ {A = ℕ} 0 1 = cc in omega arith

-- a test that passes goes on to the rest
pub need_on : (b : Bool) (r : Refusal) (d : Check) → b ≡ true → (need b r then d) ≡ d
unfolding need ◌then◌
need_on b r d e = rw e

-- a test that fails is the answer
pub need_stop : (b : Bool) (r : Refusal) (d : Check) → b ≡ false → (need b r then d) ≡ Err r
unfolding need ◌then◌
need_stop b r d e = rw e

-- the last test of a chain passes
pub need_last : (b : Bool) (r : Refusal) → b ≡ true → need b r ≡ Ok tt
unfolding need
need_last b r e = rw e

-- the last test of a chain fails
pub need_refused : (b : Bool) (r : Refusal) → b ≡ false → need b r ≡ Err r
unfolding need
need_refused b r e = rw e

-- a last test that passed
pub need_pass : (b : Bool) (r : Refusal) → need b r ≡ Ok tt → b ≡ true
unfolding need
need_pass true r e = refl
need_pass false r e = absurd (stop≢pass e)

-- both parts of a chain that passed
pub then_pass : (q d : Check) → (q then d) ≡ Ok tt → (q ≡ Ok tt) × (d ≡ Ok tt)
unfolding ◌then◌
then_pass (Ok tt) d e = (refl, e)
then_pass (Err r) d e = absurd (stop≢pass e)

-- the first test of a chain that passed, and the rest of it
pub need_then : (b : Bool) (r : Refusal) (d : Check) → (need b r then d) ≡ Ok tt → (b ≡ true) × (d ≡ Ok tt)
need_then b r d e =
    let t : (need b r ≡ Ok tt) × (d ≡ Ok tt) = then_pass (need b r) d e in
    (need_pass b r t.0, t.1)

-- what holds where a check passes and where it stops, holds
pub by_check {ℓ} : {A : Type ℓ} (x : Check) → (x ≡ Ok tt → A) → ((r : Refusal) → x ≡ Err r → A) → A
by_check (Ok tt) f g = f refl
by_check (Err r) f g = g r refl

-- no refusal has the number 0
pub refusal_number : (r : Refusal) → eqb (number_of r) done ≡ false
refusal_number Invalid = refl
refusal_number BadRequest = refl
refusal_number BadAddress = refl
refusal_number NoSegment = refl
refusal_number Misaligned = refl
refusal_number Crossing = refl
refusal_number NotPermitted = refl
refusal_number NoFrame = refl
refusal_number DepthLimit = refl
refusal_number TooManyPages = refl
refusal_number ShortOutput = refl
refusal_number BadList = refl
refusal_number (Absent d) = refl
refusal_number BadRecord = refl

-- a check with the number 0 passed
pub check_passed : (x : Check) → eqb (check_number x) done ≡ true → x ≡ Ok tt
check_passed (Ok tt) e = refl
check_passed (Err r) e = absurd (differ _ e (refusal_number r))
