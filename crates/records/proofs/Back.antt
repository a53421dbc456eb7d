-- What a span store was given is read back. Assumes nothing.
use Rattle.std.proofs.Common.{ℕ, ◌+◌, ◌≤◌, ◌≡◌, refl, ◌∙◌, List, length}
use Rattle.words.specs.Words.{bytes_at}
use Rattle.words.proofs.Splice.{length-splice}
use Rattle.words.proofs.Run.{run_back}
use Rattle.segments.specs.Kinds.{kind_store_span}
use Rattle.translate.specs.Translate.{translate_of}
use Rattle.translate.specs.declared.place.Place.{Place}
use Rattle.translate.specs.declared.place.Place.TheVariants.{InSnapshot, InControl, Zeros, InPool, Take}
use Rattle.translate.proofs.Answered.{allowed}
use Rattle.access.specs.Loads.{load_span_outcome, load_span_out}
use Rattle.access.specs.Stores.{Writable, place_in_pool, taken_pool, prepared_pool, stored_at, store_outcome, store_control, store_pool}
use Rattle.access.proofs.Answers.{place_writable, place_fits}
use Rattle.records.specs.Back.{ReadsBack, SpanBack}
use Rattle.records.proofs.Reread.{reread}
use Rattle.std.specs.Prelude.{Ok}

-- ---- the pool after a store

-- it is as long as before
length-stored : (s c p bytes : List ℕ) (q : Place) → Writable s c p q → length (stored_at s p bytes q) ≡ length p
length-stored s c p bytes (InSnapshot _) w = elim w [ ]
length-stored s c p bytes (InControl _) w = elim w [ ]
length-stored s c p bytes Zeros w = elim w [ ]
length-stored s c p bytes (InPool at) w = length-splice p at bytes
length-stored s c p bytes (Take t) w = length-splice (taken_pool s p t) t.at bytes ∙ length-splice p _ _

-- where the bytes went they stand
stored_back : (s c p bytes : List ℕ) (q : Place) → Writable s c p q → place_in_pool q + length bytes ≤ length (prepared_pool s p q)
    → bytes_at (length bytes) (stored_at s p bytes q) (place_in_pool q) ≡ bytes
stored_back s c p bytes (InSnapshot _) w h = elim w [ ]
stored_back s c p bytes (InControl _) w h = elim w [ ]
stored_back s c p bytes Zeros w h = elim w [ ]
stored_back s c p bytes (InPool at) w h = run_back p at bytes h
stored_back s c p bytes (Take t) w h = run_back (taken_pool s p t) t.at bytes h

-- ---- the span load

-- after a span store that was answered with a place
place_back : (s c p : List ℕ) (a : ℕ) (bytes out : List ℕ) (q : Place) → length out ≡ length bytes
    → translate_of s c p kind_store_span a (length bytes) ≡ Ok q
    → ReadsBack s (store_control s c p kind_store_span a (length bytes)) (store_pool s c p kind_store_span a bytes) a out bytes
unfolding load_span_outcome load_span_out store_control store_pool
place_back s c p a bytes out q size e =
    let w : Writable s c p q = place_writable s c p kind_store_span a (length bytes) refl e refl in
    let again = reread s c p (stored_at s p bytes q) a (length bytes) e (length-stored s c p bytes q w) in
    record {
      outcome = rw (size, e, again);
      bytes = rw (size, e, again, size) (stored_back s c p bytes q w (place_fits s c p kind_store_span a (length bytes) refl e refl refl refl));
    }

-- what a span store was given is read back
pub span_back : SpanBack
unfolding SpanBack store_outcome
span_back s c p a bytes out size stored =
    allowed (translate_of s c p kind_store_span a (length bytes)) stored (λ q e. place_back s c p a bytes out q size e)
