-- What a record's access answers by its span's: 0 where both are in order, the span's refusal, else 14; and how far it came. Assumes nothing.
use Rattle.std.proofs.Common.{ℕ, ◌<◌, ◌≡◌, refl, ap, Bool, true, false, List, arith, eqb}
use borrow.Author.Tests.{eqb-false}
use Rattle.layout.specs.Page.{page_size}
use Rattle.choice.proofs.Tests.{by_test, differ}
use Rattle.refusal.specs.Numbers.{number_of, done}
use Rattle.refusal.specs.Checks.{Check}
use Rattle.refusal.specs.declared.Refusal.TheVariants.{BadRecord}
use Rattle.segments.specs.Kinds.{kind_store_span}
use Rattle.translate.specs.Place.{Outcome, outcome_of, distance_of_answer}
use Rattle.access.proofs.Near.{outcome_near}
use Rattle.records.specs.Layout.{Layout}
use Rattle.records.specs.Calls.{judged, write_outcome}

-- an accepted one: the span's was accepted, and the record is valid
pub judged-done : (valid : Bool) (o : Outcome) → (judged valid o).number ≡ done → (valid ≡ true) × (o.number ≡ done)
unfolding judged
judged-done true o e = (refl, e)
judged-done false o e =
    by_test (eqb o.number done) (λ h. absurd (omega (arith, rw h at e))) (λ h. absurd (eqb-false o.number done h (rw h at e)))

-- the span's refusal is handed on
pub judged_refused : (valid : Bool) (o : Outcome) → eqb o.number done ≡ false → judged valid o ≡ o
unfolding judged
judged_refused true o e = refl
judged_refused false o e = rw e

-- refused where the span's was accepted, it is 14
pub judged_bad : (valid : Bool) (o : Outcome) → eqb o.number done ≡ true → eqb (judged valid o).number done ≡ false
    → (judged valid o).number ≡ number_of BadRecord
unfolding judged
judged_bad true o e h = absurd (differ _ e h)
judged_bad false o e h = rw e

-- its distance is below a page's length: 14 has none
judged_near : (valid : Bool) (o : Outcome) → o.distance < page_size → (judged valid o).distance < page_size
unfolding judged
judged_near true o h = h
judged_near false o h = by_test (eqb o.number done) (λ e. rw e (omega arith)) (λ e. rw e h)

-- so is a write's
pub write_near : (s c p : List ℕ) (l : Layout) (a : ℕ) (vs : List ℕ) (x : Check) → outcome_of x ≡ write_outcome s c p l a vs
    → distance_of_answer x < page_size
unfolding write_outcome
write_near s c p l a vs x e = rw (ap (λ (o : Outcome). o.distance) e) (judged_near _ _ (outcome_near s c p a _ kind_store_span))
