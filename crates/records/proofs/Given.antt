-- What a read gives is what its one span load gives where those bytes are a record, else 14 and zeros. Assumes nothing.
use Rattle.std.proofs.Common.{ℕ, zero, suc, ◌≡◌, refl, sym, ◌∙◌, ap, Bool, true, false, List, [], ◌∷◌, length, get_or, replicate}
use Rattle.words.specs.Words.{zeros}
use Rattle.words.proofs.Word.{word_zeros}
use Rattle.choice.proofs.Tests.{by_test, differ}
use Rattle.refusal.specs.Numbers.{number_of, distance_of, done}
use Rattle.refusal.specs.Checks.{Check}
use Rattle.refusal.specs.declared.Refusal.{Refusal}
use Rattle.refusal.specs.declared.Refusal.TheVariants.{BadRecord}
use Rattle.translate.specs.Place.{outcome_of, Translation, Outcome}
use Rattle.translate.specs.Translate.{translate_of}
use Rattle.segments.specs.Kinds.{kind_load_span}
use Rattle.access.specs.Loads.{filled, load_span_of, load_span_outcome, load_span_out}
use Rattle.access.proofs.Outcomes.{span_of_outcome}
use Rattle.records.specs.Answers.{record_read}
use Rattle.records.specs.Laws.{Kept}
use Rattle.records.specs.Layout.{Layout, record_length, decoded, valid_fields}
use Rattle.records.specs.Calls.{blank, judged, read_outcome, read_bytes, read_fields}
use Rattle.std.specs.Prelude.{Err, Ok}

-- an array of zeros, as bytes
pub zeros_array : (n : ℕ) → replicate n 0 ≡ zeros n
unfolding zeros
zeros_array zero = refl
zeros_array (suc n) = ap (λ (r : List ℕ). 0 ∷ r) (zeros_array n)

-- an array of a record's size is what its span load fills
blank_array : (l : Layout) (n : ℕ) → record_length l.widths ≡ n → replicate n 0 ≡ blank l
blank_array l n e = zeros_array n ∙ ap zeros (sym e)

-- ---- a read whose bytes are a record gives what its span load into an array of zeros gives

pub read_good : (s c p : List ℕ) (l : Layout) (a n : ℕ) → record_length l.widths ≡ n
    → valid_fields l (decoded l.widths (load_span_out s c p a (replicate n 0)) 0) ≡ true
    → (read_outcome s c p l a ≡ load_span_outcome s c p a (replicate n 0)) × (read_bytes s c p l a ≡ load_span_out s c p a (replicate n 0))
unfolding read_outcome read_bytes judged
read_good s c p l a n size good =
    let e : blank l ≡ replicate n 0 = sym (blank_array l n size) in
    rw (e, good) (refl, refl)

-- so it gives the record of those bytes, and what the span load answers
module _ (s c p : List ℕ) (l : Layout) (a n : ℕ) (size : record_length l.widths ≡ n) {R : Type 0} (fields : R → List ℕ) (from : List ℕ → R)
    (kept : Kept l fields from) {out : List ℕ} (filled : out ≡ load_span_out s c p a (replicate n 0)) {v : R} (is : v ≡ from (decoded l.widths out 0))
    {b : Bool} (asked : b ≡ valid_fields l (fields v)) (valid : b ≡ true) {x : Check} (answer : x ≡ load_span_of s c p a (replicate n 0)) where
  -- those bytes are a record
  good : valid_fields l (decoded l.widths (load_span_out s c p a (replicate n 0)) 0) ≡ true
  good = rw (← filled, ← kept out 0, ← is) (sym asked ∙ valid)

  -- it is that record
  same : v ≡ from (read_fields s c p l a)
  same = is ∙ rw (filled, (read_good s c p l a n size good).1)

  -- its number and distance are the span load's
  told : outcome_of x ≡ read_outcome s c p l a
  told = ap outcome_of answer ∙ span_of_outcome s c p a (replicate n 0) ∙ sym (read_good s c p l a n size good).0

  -- where the span load is allowed
  pub read_allowed : x ≡ Ok tt → record { «record» = v; distance = 0; number = 0 } ≡ record_read l from s c p a
  read_allowed e = rw (← told, e, ← same)

  -- where it is refused
  pub read_refused : {r : Refusal} → x ≡ Err r → record { «record» = v; distance = distance_of r; number = number_of r } ≡ record_read l from s c p a
  read_refused e = rw (← told, e, ← same)

-- ---- bytes that are no record

-- the first field of zeros is 0, if there is one
first_blank : (ws : List ℕ) → get_or (decoded ws (zeros (record_length ws)) 0) 0 0 ≡ 0
unfolding decoded
first_blank [] = refl
first_blank (w ∷ ws) = word_zeros w (record_length (w ∷ ws)) 0

-- so zeros are a record of every layout
blank_valid : (l : Layout) → valid_fields l (decoded l.widths (blank l) 0) ≡ true
unfolding valid_fields
blank_valid l = by_test l.discriminated (λ e. rw (e, first_blank l.widths)) (λ e. rw e)

-- and where the span load's bytes are none, it was accepted
bad_accepted : (s c p : List ℕ) (l : Layout) (t : Translation) → valid_fields l (decoded l.widths (filled s c p (blank l) t) 0) ≡ false
    → outcome_of t ≡ record { number = done; distance = 0 }
bad_accepted s c p l (Ok q) bad = refl
bad_accepted s c p l (Err r) bad = absurd (differ _ (blank_valid l) bad)

-- an access that was accepted is then 14
judged-accepted : {o : Outcome} → o ≡ record { number = done; distance = 0 } → judged false o ≡ record { number = number_of BadRecord; distance = 0 }
unfolding judged
judged-accepted e = rw e

-- the read is then 14 and gives zeros
pub read_bad : (s c p : List ℕ) (l : Layout) (a n : ℕ) → record_length l.widths ≡ n
    → valid_fields l (decoded l.widths (load_span_out s c p a (replicate n 0)) 0) ≡ false
    → (read_outcome s c p l a ≡ record { number = number_of BadRecord; distance = 0 }) × (read_bytes s c p l a ≡ replicate n 0)
unfolding read_outcome read_bytes load_span_outcome load_span_out
read_bad s c p l a n size bad =
    let e : replicate n 0 ≡ blank l = blank_array l n size in
    let none : valid_fields l (decoded l.widths (load_span_out s c p a (blank l)) 0) ≡ false = rw e at bad in
    rw (none, e) (judged-accepted (bad_accepted s c p l (translate_of s c p kind_load_span a (length (blank l))) none), refl)
