-- The answers of translation and of the view have their step's number, translation's its distance, and a view's answer names its bytes.
-- Assumes nothing.
use Prim.Native.Nat.{ℕ}
use mathlib.Core.Path.{◌≡◌, refl}
use mathlib.Core.List.{List}
use Rattle.translate.specs.Place.{number_of_answer, distance_of_answer, Translation}
use Rattle.translate.specs.declared.place.Place.{Place}
use Rattle.translate.specs.declared.place.Place.TheVariants.{InSnapshot, InControl, Zeros, InPool, Take}
use Rattle.refusal.specs.Numbers.{done}
use Rattle.access.specs.Loads.{load_span_of, load_span_outcome}
use Rattle.access.specs.Stores.{store_of, store_outcome}
use Rattle.access.proofs.Outcomes.{store_of_outcome, span_of_outcome}
use Rattle.view.specs.View.{view_number, view_bytes}
use Rattle.view.specs.declared.View.{View}
use Rattle.view.specs.declared.View.TheVariants as view
use Rattle.hekthumar.specs.Answers.{outcome_answer, place_of, place_answer, distance_in, view_answer, viewed}
use Rattle.std.specs.Prelude.{Result, Err, Ok}
use Rattle.refusal.specs.declared.Refusal.{Refusal}

-- every place is an accepted answer
place_done : (q : Place) → (place_of q).number ≡ done
place_done (InSnapshot at) = refl
place_done (InControl at) = refl
place_done Zeros = refl
place_done (InPool at) = refl
place_done (Take n) = refl

-- translation's number
pub place_number : (t : Translation) → (place_answer t).number ≡ number_of_answer t
place_number (Ok q) = place_done q
place_number (Err r) = refl

-- a place has no distance
place_near : (q : Place) → ◌≡◌ {A = ℕ} (distance_in (place_of q)) 0
place_near (InSnapshot at) = refl
place_near (InControl at) = refl
place_near Zeros = refl
place_near (InPool at) = refl
place_near (Take n) = refl

-- translation's distance
pub place_distance : (t : Translation) → distance_in (place_answer t) ≡ distance_of_answer t
place_distance (Ok q) = place_near q
place_distance (Err r) = refl

-- the view's number
pub view_number_lem : (v : Result View Refusal) → (view_answer v).number ≡ view_number v
view_number_lem (Ok (view.InSnapshot at n)) = refl
view_number_lem (Ok (view.InPool at n)) = refl
view_number_lem (Err r) = refl

-- the view's bytes
pub view_bytes_lem : (s p : List ℕ) (v : Result View Refusal) → viewed s p (view_answer v) ≡ view_bytes s p v
view_bytes_lem s p (Ok (view.InSnapshot at n)) = refl
view_bytes_lem s p (Ok (view.InPool at n)) = refl
view_bytes_lem s p (Err r) = refl

-- the number and the distance of an access that gives no value are those of its step
pub store_answered : (s c p : List ℕ) (kind a n : ℕ)
    → outcome_answer (store_of s c p kind a n) ≡ record { distance = (store_outcome s c p kind a n).distance; number = (store_outcome s c p kind a n).number }
store_answered s c p kind a n = rw (← store_of_outcome s c p kind a n)

pub span_answered : (s c p : List ℕ) (a : ℕ) (out : List ℕ)
    → outcome_answer (load_span_of s c p a out) ≡ record { distance = (load_span_outcome s c p a out).distance; number = (load_span_outcome s c p a out).number }
span_answered s c p a out = rw (← span_of_outcome s c p a out)
