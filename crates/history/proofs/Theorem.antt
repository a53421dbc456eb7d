-- Demand 3: by induction over the calls, with the invariant of `Good`; the list and its application by what the invariant says of
-- copies and plain copies. Assumes nothing.
use mathlib.Core.List.{List, ◌∷◌}
use mathlib.Core.Path.{◌≡◌}
use mathlib.Core.Bool.{true}
use Prim.Native.Nat.{ℕ}
use Rattle.control.specs.Buffers.{Buffers}
use Rattle.invoke.specs.declared.begin.Start.{Start}
use Rattle.hekthumar.specs.Steps.{Call, begin}
use Rattle.history.specs.Calls.{accepted, run}
use Rattle.history.specs.Replay.{started, replay, feed}
use Rattle.history.specs.Claims.{DemandThree, LoadsRight}
use Rattle.history.proofs.Good.{Good}
use Rattle.history.proofs.Steps.{keep_step}
use Rattle.history.proofs.LoadCalls.{right_call}
use Rattle.history.proofs.Induction.{from_begin}
use Rattle.history.proofs.Listing.{list_right}
use Rattle.history.proofs.Applying.{apply_right}

-- after a history that opens with an accepted begin the invariant holds, and every load was right
pub good_after : (s : List ℕ) (b : Buffers) (x : Start) (ks : List Call) → accepted s b (begin x) ≡ true
    → Good s (run s b (begin x ∷ ks)) (replay s (started s) (feed s b (begin x ∷ ks))) × LoadsRight s b (started s) (begin x ∷ ks)
good_after = from_begin keep_step (λ s b r g. right_call g)

-- demand 3, whole
pub demand_three : DemandThree
unfolding DemandThree
demand_three s b x ks e =
    let g = good_after s b x ks e in
    record {
      list = list_right s (run s b (begin x ∷ ks)) (replay s (started s) (feed s b (begin x ∷ ks))) g.0;
      apply = apply_right s (run s b (begin x ∷ ks)) (replay s (started s) (feed s b (begin x ∷ ks))) g.0;
      loads = g.1;
    }
