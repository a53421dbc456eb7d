-- Document 01, "The replay": "A history is a list as in demand 3." What an accepted call means to the replay. Assumes nothing.
use Rattle.std.specs.Prelude.{ℕ, Bool, List, [], ◌∷◌, nat_eq}
use Rattle.words.specs.Words.{word_bytes}
use Rattle.refusal.specs.Numbers.{done}
use Rattle.control.specs.Buffers.{Buffers}
use Rattle.records.specs.Layout.{encoded}
use Rattle.hekthumar.specs.Steps.{Call, begin, translation, load, store, fetch, load_span, store_span, read_record, write_record, call, return, resize, change_list, page_view, step_of}

-- "Accepted means answered with 0."
abbrev pub accepted : List ℕ → Buffers → Call → Bool
accepted s b k = nat_eq (step_of s b k).answer.number done

-- what a call means to the replay: it starts anew, it stores these bytes at an address, it goes one deeper, it comes back, or none of these
pub data Effect : Type 0 where
  starts : Effect
  stores : (address : ℕ) (bytes : List ℕ) → Effect
  deepens : Effect
  comes_back : Effect
  other : Effect

-- the effect of each call, once it is accepted
unfoldable pub effect : Call → Effect
effect (begin x) = starts
effect (translation kind a n) = other
effect (load a n) = other
effect (store a n v) = stores a (word_bytes n v)
effect (fetch a n) = other
effect (load_span a out) = other
effect (store_span a bytes) = stores a bytes
effect (read_record l a) = other
effect (write_record l a fields) = stores a (encoded l.widths fields)
effect (call a registers) = deepens
effect (return registers) = comes_back
effect (resize region n) = other
effect (change_list out) = other
effect (page_view a q) = other

-- the working buffers after a list of calls
unfoldable pub run : List ℕ → Buffers → List Call → Buffers
run s b [] = b
run s b (k ∷ ks) = run s (step_of s b k).after ks
