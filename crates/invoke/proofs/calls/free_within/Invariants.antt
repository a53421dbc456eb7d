use Rattle.std.proofs.Common.{◌≡◌, ℕ, List, length}
use Rattle.invoke.specs.Invoke.{freed_below}
use Rattle.invoke.proofs.calls.free_within.Given as goal

abbrev pub invariant-loop-i : goal.invariant-loop-i
invariant-loop-i l =
    (length l.c ≡ length l.initial.c) × ((d : List ℕ) → l.initial.c ≡ freed_below l.depth d l.from → l.c ≡ freed_below l.depth d l.i)
