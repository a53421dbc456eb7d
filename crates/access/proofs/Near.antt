-- What an access answers has a distance below a page's length. Assumes nothing.
use Rattle.std.proofs.Common.{ℕ, ◌<◌, ◌≡◌, List, length, ap}
use Rattle.std.specs.Prelude.{Result}
use Rattle.layout.specs.Page.{page_size}
use Rattle.refusal.specs.Checks.{Check}
use Rattle.refusal.specs.declared.Refusal.{Refusal}
use Rattle.segments.specs.Kinds.{kind_load, kind_fetch, kind_load_span}
use Rattle.translate.specs.Place.{Outcome, distance_of_answer}
use Rattle.translate.specs.Translate.{translate_of}
use Rattle.translate.proofs.Absence.{distance_near}
use Rattle.access.specs.Loads.{load_of, fetch_of, load_span_of}
use Rattle.access.specs.Stores.{store_of, store_outcome}
use Rattle.access.proofs.Outcomes.{answered_outcome, accepted_outcome}

-- the distance of an outcome
abbrev distance : Outcome → ℕ
distance o = o.distance

module _ (s c p : List ℕ) (a n : ℕ) where
  pub load_near : {v : Result ℕ Refusal} → v ≡ load_of s c p a n → distance_of_answer v < page_size
  unfolding load_of
  load_near e = rw (e, ap distance (answered_outcome s c p n (translate_of s c p kind_load a n))) (distance_near s c p kind_load a n)

  pub fetch_near : {v : Result ℕ Refusal} → v ≡ fetch_of s c p a n → distance_of_answer v < page_size
  unfolding fetch_of
  fetch_near e = rw (e, ap distance (answered_outcome s c p n (translate_of s c p kind_fetch a n))) (distance_near s c p kind_fetch a n)

  pub store_near : (kind : ℕ) {o : Check} → o ≡ store_of s c p kind a n → distance_of_answer o < page_size
  unfolding store_of
  store_near kind e = rw (e, ap distance (accepted_outcome (translate_of s c p kind a n))) (distance_near s c p kind a n)

  -- the same, of the number and the distance that it gives
  pub outcome_near : (kind : ℕ) → (store_outcome s c p kind a n).distance < page_size
  unfolding store_outcome
  outcome_near kind = distance_near s c p kind a n

pub span_near : (s c p : List ℕ) (a : ℕ) (out : List ℕ) {o : Check} → o ≡ load_span_of s c p a out → distance_of_answer o < page_size
unfolding load_span_of
span_near s c p a out e =
    rw (e, ap distance (accepted_outcome (translate_of s c p kind_load_span a (length out)))) (distance_near s c p kind_load_span a (length out))
