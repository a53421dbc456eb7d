-- Document 01, "Order for an access": loads, fetches and span loads. "Each access takes that answer apart and does just that."
-- Assumes nothing.
use Rattle.std.specs.Prelude.{ℕ, List, length, Result, Ok, Err}
use Rattle.words.specs.Words.{word_at, bytes_at, zeros}
use Rattle.segments.specs.Kinds.{kind_load, kind_fetch, kind_load_span}
use Rattle.translate.specs.Place.{outcome_of, accepted, Translation, Outcome}
use Rattle.translate.specs.Translate.{translate_of}
use Rattle.translate.specs.declared.place.Place.{Place}
use Rattle.translate.specs.declared.place.Place.TheVariants.{InSnapshot, InControl, Zeros, InPool, Take}
use Rattle.refusal.specs.Checks.{Check}
use Rattle.refusal.specs.declared.Refusal.{Refusal}

-- the number that the n bytes at a place spell; a load never takes a frame
abbrev pub value_at : List ℕ → List ℕ → List ℕ → ℕ → Place → ℕ
value_at s c p n (InSnapshot at) = word_at n s at
value_at s c p n (InControl at) = word_at n c at
value_at s c p n Zeros = 0
value_at s c p n (InPool at) = word_at n p at
value_at s c p n (Take t) = 0

-- the value at translation's place, or its refusal
abbrev pub answered : List ℕ → List ℕ → List ℕ → ℕ → Translation → Result ℕ Refusal
answered s c p n (Ok q) = Ok (value_at s c p n q)
answered s c p n (Err r) = Err r

-- "a value is then 0" where refused
abbrev pub value_in : Result ℕ Refusal → ℕ
value_in (Ok v) = v
value_in (Err r) = 0

-- a load
unfoldable pub load_of : List ℕ → List ℕ → List ℕ → ℕ → ℕ → Result ℕ Refusal
load_of s c p a n = answered s c p n (translate_of s c p kind_load a n)

-- a fetch
unfoldable pub fetch_of : List ℕ → List ℕ → List ℕ → ℕ → ℕ → Result ℕ Refusal
fetch_of s c p a n = answered s c p n (translate_of s c p kind_fetch a n)

-- the lent buffer filled from a place: "the whole length of a lent buffer"
abbrev pub span_at : List ℕ → List ℕ → List ℕ → List ℕ → Place → List ℕ
span_at s c p out (InSnapshot at) = bytes_at (length out) s at
span_at s c p out (InControl at) = bytes_at (length out) c at
span_at s c p out Zeros = zeros (length out)
span_at s c p out (InPool at) = bytes_at (length out) p at
span_at s c p out (Take t) = out

-- the lent buffer after a span load: a refusal leaves it
abbrev pub filled : List ℕ → List ℕ → List ℕ → List ℕ → Translation → List ℕ
filled s c p out (Ok q) = span_at s c p out q
filled s c p out (Err r) = out

-- a span load: it is allowed, or refused
unfoldable pub load_span_of : List ℕ → List ℕ → List ℕ → ℕ → List ℕ → Check
load_span_of s c p a out = accepted (translate_of s c p kind_load_span a (length out))

-- its number and distance
unfoldable pub load_span_outcome : List ℕ → List ℕ → List ℕ → ℕ → List ℕ → Outcome
load_span_outcome s c p a out = outcome_of (translate_of s c p kind_load_span a (length out))

-- the lent buffer after a span load
unfoldable pub load_span_out : List ℕ → List ℕ → List ℕ → ℕ → List ℕ → List ℕ
load_span_out s c p a out = filled s c p out (translate_of s c p kind_load_span a (length out))
