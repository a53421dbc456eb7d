-- Document 02, "Six": the edition over a history's calls. The claims of demand 3 do not speak of it. Assumes nothing.
use Rattle.std.specs.Prelude.{◌≡◌, true, List, ℕ}
use Rattle.control.specs.Buffers.{Buffers}
use Rattle.control.specs.Control.{edition}
use Rattle.invoke.specs.declared.begin.Start.{Start}
use Rattle.hekthumar.specs.Steps.{Call, begin, step_of}
use Rattle.history.specs.Calls.{accepted, starts, effect}

-- "Both begins take the edition": an accepted one leaves it
abbrev pub BeginTakes : Type 0
BeginTakes = (s : List ℕ) (b : Buffers) (x : Start) → accepted s b (begin x) ≡ true → edition (step_of s b (begin x)).after.control ≡ x.edition

-- any other call leaves the one that is there, accepted or refused, whatever the buffers hold
abbrev pub OthersKeep : Type 0
OthersKeep = (s : List ℕ) (b : Buffers) (k : Call) → (effect k ≡ starts → ⊥) → edition (step_of s b k).after.control ≡ edition b.control
