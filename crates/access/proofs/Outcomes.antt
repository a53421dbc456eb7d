-- A value, or no value, has the number and the distance of translation's answer. Assumes nothing.
use Rattle.std.proofs.Common.{ℕ, ◌≡◌, refl, List}
use Rattle.std.specs.Prelude.{Ok, Err}
use Rattle.translate.specs.Place.{Translation, outcome_of, accepted}
use Rattle.translate.specs.Translate.{translate_of}
use Rattle.segments.specs.Kinds.{kind_load_span}
use Rattle.access.specs.Loads.{answered, load_span_of, load_span_outcome}
use Rattle.access.specs.Stores.{store_of, store_outcome}

pub answered_outcome : (s c p : List ℕ) (n : ℕ) (t : Translation) → outcome_of (answered s c p n t) ≡ outcome_of t
answered_outcome s c p n (Ok q) = refl
answered_outcome s c p n (Err r) = refl

pub accepted_outcome : (t : Translation) → outcome_of (accepted t) ≡ outcome_of t
accepted_outcome (Ok q) = refl
accepted_outcome (Err r) = refl

pub store_of_outcome : (s c p : List ℕ) (kind a n : ℕ) → outcome_of (store_of s c p kind a n) ≡ store_outcome s c p kind a n
unfolding store_of store_outcome
store_of_outcome s c p kind a n = accepted_outcome (translate_of s c p kind a n)

pub span_of_outcome : (s c p : List ℕ) (a : ℕ) (out : List ℕ) → outcome_of (load_span_of s c p a out) ≡ load_span_outcome s c p a out
unfolding load_span_of load_span_outcome
span_of_outcome s c p a out = accepted_outcome (translate_of s c p kind_load_span a _)
