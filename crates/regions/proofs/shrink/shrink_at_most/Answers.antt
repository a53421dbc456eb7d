-- `regions::shrink::shrink_at_most` meets its contract: its table has room for the pages that go, and the number of no frame in each place.
-- Assumes nothing.
use Rattle.std.proofs.Common.{ℕ, ◌≤◌, ◌<◌, true, ◌≡◌, List, arith, length, get_or, take, replicate, length-take, get_or-take}
use Rattle.std.proofs.Math.ListN.{get_or-replicate}
use Rattle.control.specs.Control.{frames, control_valid}
use Rattle.control.proofs.Facts.{control_facts}
use Rattle.regions.proofs.shrink.shrink_at_most.Goals as goal

-- of a new table of m places the first n have no frame
empty : (c : List ℕ) (m n : ℕ) → control_valid c ≡ true → n ≤ m → (j : ℕ) → j < length (take n (replicate {A = ℕ} m 65535))
    → frames c ≤ get_or (take n (replicate {A = ℕ} m 65535)) j 0
empty c m n ok l j b =
    let v = control_facts c ok in
    let h : j < n = omega (arith, b, length-take n (replicate {A = ℕ} m 65535)) in
    rw (get_or-take n (replicate {A = ℕ} m 65535) j 0 h, get_or-replicate {A = ℕ} m j 65535 0 (omega arith)) (omega arith)

pub shrink_by-requires-clause-by_index : goal.shrink_by-requires-clause-by_index
shrink_by-requires-clause-by_index g c = empty _ g.row.N _ c.requires.c_value.0 (omega (arith, c.requires.c_value))
