-- The lowest and the highest index at which a test passes, at how many it does, whether at all, and which. Assumes nothing.
use Rattle.std.specs.Prelude.{ℕ, zero, suc, ◌-◌, Bool, true, List, [], ◌∷◌, nat_lt}
use Rattle.choice.specs.Choice.{pick, both}

-- the first of the k indices from i on at which the test passes; i + k where it passes at none
unfoldable pub seek : (ℕ → Bool) → ℕ → ℕ → ℕ
seek f i zero = i
seek f i (suc k) = pick (f i) i (seek f (suc i) k)

-- the lowest index below n at which the test passes; n where it passes at none
abbrev pub lowest : (ℕ → Bool) → ℕ → ℕ
lowest f n = seek f 0 n

-- the test of the indices below n in the other order: k is how many of them are above the one that is asked
abbrev pub from_top : (ℕ → Bool) → ℕ → ℕ → Bool
from_top f n k = f (n - suc k)

-- the index with so many above it; n where there is none
abbrev pub below : ℕ → ℕ → ℕ
below n k = pick (nat_lt k n) (n - suc k) n

-- the highest index below n at which the test passes; n where it passes at none
unfoldable pub highest : (ℕ → Bool) → ℕ → ℕ
highest f n = below n (lowest (from_top f n) n)

-- at how many of the indices below n the test passes
unfoldable pub count : (ℕ → Bool) → ℕ → ℕ
count f zero = 0
count f (suc n) = pick (f n) (suc (count f n)) (count f n)

-- the test passes at every index below n
unfoldable pub every : (ℕ → Bool) → ℕ → Bool
every t zero = true
every t (suc n) = both (every t n) (t n)

-- the numbers at which the test passes, of the k from i on, in ascending order
unfoldable pub picked : (ℕ → Bool) → ℕ → ℕ → List ℕ
picked f i zero = []
picked f i (suc k) = pick (f i) (i ∷ picked f (suc i) k) (picked f (suc i) k)
