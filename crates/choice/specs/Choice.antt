-- One of two by a test, and two tests joined. Assumes nothing.
use Rattle.std.specs.Prelude.{Bool, true, false}

-- the first where the test passes, else the second
abbrev pub pick {ℓ} : {X : Type ℓ} → Bool → X → X → X
pick true x y = x
pick false x y = y

-- both tests pass
abbrev pub both : Bool → Bool → Bool
both true b = b
both false b = false

-- one of the tests passes
abbrev pub either : Bool → Bool → Bool
either true b = true
either false b = b
