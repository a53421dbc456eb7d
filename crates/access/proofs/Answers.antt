-- What an access does with translation's answer: a refusal is given back and nothing changes, and a place has room for the bytes of the access.
-- Assumes nothing.
use Rattle.std.proofs.Common.{ℕ, ◌+◌, ◌≤◌, ◌<◌, ◌≡◌, refl, sym, ◌∙◌, true, List, length}
use Rattle.layout.specs.Page.{page_size}
use Rattle.words.specs.Words.{is_size, splice}
use Rattle.words.proofs.Splice.{length-splice}
use Rattle.refusal.specs.declared.Refusal.{Refusal}
use Rattle.segments.specs.Kinds.{is_store, request_valid}
use Rattle.segments.proofs.Requests.{request_size, request_length}
use Rattle.translate.specs.Place.{accepted, Translation}
use Rattle.translate.specs.Translate.{translate_of}
use Rattle.translate.specs.Fits.{Fits}
use Rattle.refusal.specs.Checks.{Check}
use Rattle.translate.specs.declared.place.Place.{Place}
use Rattle.translate.specs.declared.place.Place.TheVariants.{InSnapshot, InControl, Zeros, InPool, Take}
use Rattle.translate.proofs.Accepted as translated
use Rattle.translate.proofs.Stores.{StorePlace, into_copy, into_new, into_region, store_place}
use Rattle.translate.proofs.Places.{translate_fits}
use Rattle.access.specs.Loads.{value_at, answered, span_at, filled}
use Rattle.access.specs.Stores.{Writable, place_in_pool, prepared_control, prepared_pool, stored_at, store_of, store_control, store_pool}
use Rattle.std.specs.Prelude.{Result, Err, Ok}

-- ---- the place of a store

module _ (s c p : List ℕ) (kind a n : ℕ) where
  -- it is in the pool, or a frame to be taken
  store_writable : {q : Place} → StorePlace c kind a q → Fits s c p n q → Writable s c p q
  store_writable (into_copy h x) f = tt
  store_writable (into_new x) f = f.1
  store_writable (into_region r h x) f = tt

  -- with room in the pool
  store_room : {q : Place} → StorePlace c kind a q → Fits s c p n q → place_in_pool q + n ≤ length p
  store_room (into_copy h x) f = f
  store_room (into_new x) f = f.0
  store_room (into_region r h x) f = f

-- a page that is made writable leaves the pool's length
length_prepared : (s p : List ℕ) (q : Place) → length (prepared_pool s p q) ≡ length p
length_prepared s p (InSnapshot at) = refl
length_prepared s p (InControl at) = refl
length_prepared s p Zeros = refl
length_prepared s p (InPool at) = refl
length_prepared s p (Take t) = length-splice p _ _

-- bytes put in where a writable page's place is, once it has its frame, are stored at that place
put_at : (s c p bytes : List ℕ) (q : Place) → Writable s c p q → splice (prepared_pool s p q) (place_in_pool q) bytes ≡ stored_at s p bytes q
put_at s c p bytes (InSnapshot _) w = elim w [ ]
put_at s c p bytes (InControl _) w = elim w [ ]
put_at s c p bytes Zeros w = elim w [ ]
put_at s c p bytes (InPool at) w = refl
put_at s c p bytes (Take t) w = refl

-- ---- an answer t of translation, and what an access makes of it

module _ (s c p : List ℕ) (kind a n : ℕ) {t : Translation} (is : t ≡ translate_of s c p kind a n) where
  -- a refusal r
  module _ {r : Refusal} (e : t ≡ Err r) where
    -- what a load or a fetch gives
    pub refused_value : {x : Result ℕ Refusal} → x ≡ Err r → x ≡ answered s c p n (translate_of s c p kind a n)
    refused_value h = rw (h, ← is, e)

    -- what a span load gives
    pub refused_span : (out : List ℕ) {x : Check} → x ≡ Err r
        → (x ≡ accepted (translate_of s c p kind a n)) × (out ≡ filled s c p out (translate_of s c p kind a n))
    refused_span out h = rw (h, ← is, e) (refl, refl)

    -- what a store leaves
    pub refused_store : (bytes : List ℕ) → length bytes ≡ n → {x : Check} → x ≡ Err r
        → (x ≡ store_of s c p kind a n) × ((c ≡ store_control s c p kind a n) × (p ≡ store_pool s c p kind a bytes))
    unfolding store_of store_control store_pool
    refused_store bytes l h = rw (h, l, ← is, e) (refl, (refl, refl))

  -- a place q
  module _ {q : Place} (e : t ≡ Ok q) where
    -- what a load or a fetch gives
    pub given_value : {v : ℕ} → v ≡ value_at s c p n q → Ok v ≡ answered s c p n (translate_of s c p kind a n)
    given_value h = rw (h, ← is, e)

    -- what a span load gives
    pub given_span : (out : List ℕ) {out' : List ℕ} → out' ≡ span_at s c p out q
        → (Ok tt ≡ accepted (translate_of s c p kind a n)) × (out' ≡ filled s c p out (translate_of s c p kind a n))
    given_span out h = rw (h, ← is, e) (refl, refl)

    -- what a store leaves
    pub given_store : (bytes : List ℕ) → length bytes ≡ n → Writable s c p q → {at : ℕ} {c' p' p'' : List ℕ} → at ≡ place_in_pool q → c' ≡ prepared_control c q
        → p' ≡ prepared_pool s p q → p'' ≡ splice p' at bytes
        → (Ok tt ≡ store_of s c p kind a n) × ((c' ≡ store_control s c p kind a n) × (p'' ≡ store_pool s c p kind a bytes))
    unfolding store_of store_control store_pool
    given_store bytes l w h₁ h₂ h₃ h₄ = rw (h₄, h₃, h₂, h₁, l, ← is, e) (refl, (refl, put_at s c p bytes q w))

-- ---- an answer t that is a place q

module _ (s c p : List ℕ) (kind a n : ℕ) {t : Translation} (is : t ≡ translate_of s c p kind a n) {q : Place} (e : t ≡ Ok q) where
  -- the request is valid
  request : request_valid kind n ≡ true
  request = (translated.accepted s c p kind a n (sym is ∙ e) refl).request

  -- the place has room for n bytes
  pub place_room : Fits s c p n q
  place_room = translate_fits s c p kind a n q (sym is ∙ e)

  -- which are 1, 2, 4 or 8 where it is no span
  pub place_size : kind < 3 → is_size n ≡ true
  place_size h = request_size kind n request h

  -- and at most 4,096 in all cases
  pub place_long : n ≤ page_size
  place_long = (request_length kind n request).1

  module _ (store : is_store kind ≡ true) where
    -- a store's page can be made writable
    pub place_writable : Writable s c p q
    place_writable = store_writable s c p kind a n (store_place s c p kind a n store (sym is ∙ e)) place_room

    -- then there is room for the bytes
    pub place_fits : {at : ℕ} {p' : List ℕ} → at ≡ place_in_pool q → p' ≡ prepared_pool s p q → at + n ≤ length p'
    place_fits h g =
        rw (g, h, length_prepared s p q) (store_room s c p kind a n (store_place s c p kind a n store (sym is ∙ e)) place_room)
