use Rattle.std.proofs.Common.{◌-◌, ◌≡◌, ◌≤◌, ◌<◌, ℕ, false, List}
use Rattle.regions.specs.Resize.{grown}
use Rattle.regions.proofs.grow.take_pages.Given as goal
use Rattle.control.specs.declared.shadow.Region.{Region}
use Rattle.frames.specs.Table.{is_free}

-- n pages are taken, and no entry before `at` is free
pub record Turn (r : Region) (size : ℕ) (c₀ p₀ : List ℕ) (n at : ℕ) (c p : List ℕ) : Type 0 where
  pub control : c ≡ (grown r size c₀ p₀ n).control
  pub pool : p ≡ (grown r size c₀ p₀ n).pool
  pub passed : (j : ℕ) → j < at → is_free c j ≡ false

abbrev pub invariant-loop-k : goal.invariant-loop-k
invariant-loop-k l = (l.at ≤ l.frames) × Turn l.r l.size l.initial.c l.initial.pool (l.k - l.size) l.at l.c l.pool
