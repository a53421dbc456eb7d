-- The whole history: where every call keeps the invariant and every load gives what the replay holds, so do all calls of a list; and a
-- list that opens with an accepted begin needs nothing of the buffers before it. Assumes nothing.
use mathlib.Core.Path.{◌≡◌}
use mathlib.Core.Bool.{true}
use mathlib.Core.List.{List, [], ◌∷◌}
use Prim.Native.Nat.{ℕ}
use Rattle.control.specs.Buffers.{Buffers}
use Rattle.invoke.specs.declared.begin.Start.{Start}
use Rattle.hekthumar.specs.Steps.{Call, begin, step_of}
use Rattle.history.specs.Calls.{accepted, run, effect}
use Rattle.history.specs.Replay.{Replay, started, replay_effect, replay_step, replay, feed}
use Rattle.history.specs.Claims.{LoadRight, LoadsRight}
use Rattle.history.proofs.Good.{Good}
use Rattle.history.proofs.Others.{GoodAfter}
use Rattle.history.proofs.Begun.{opens}

module _ (step : (s : List ℕ) (b : Buffers) (r : Replay) → Good s b r → (k : Call) → GoodAfter s b r k)
    (right : (s : List ℕ) (b : Buffers) (r : Replay) → Good s b r → (k : Call) → LoadRight r k (step_of s b k).answer) where
  -- from where the invariant holds, it holds after every list of calls, and every load of the list was right
  pub whole : (s : List ℕ) (b : Buffers) (r : Replay) → Good s b r → (ks : List Call)
      → Good s (run s b ks) (replay s r (feed s b ks)) × LoadsRight s b r ks
  unfolding run replay feed LoadsRight
  whole s b r g [] = (g, tt)
  whole s b r g (k ∷ ks) =
      let u = whole s (step_of s b k).after (replay_step s r (record { asked = k; ok = accepted s b k })) (step s b r g k) ks in
      (u.0, (right s b r g k, u.1))

  -- so it does from an accepted begin on, whatever the buffers held before
  pub from_begin : (s : List ℕ) (b : Buffers) (x : Start) (ks : List Call) → accepted s b (begin x) ≡ true
      → Good s (run s b (begin x ∷ ks)) (replay s (started s) (feed s b (begin x ∷ ks))) × LoadsRight s b (started s) (begin x ∷ ks)
  unfolding run replay feed LoadsRight LoadRight effect replay_effect
  from_begin s b x ks e =
      let u = whole s (step_of s b (begin x)).after (started s) (opens s b x e) ks in
      rw e (u.0, (tt, u.1))
