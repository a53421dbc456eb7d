-- Document 02, "Six": a fetch where it is allowed, elsewhere, and 0/3 in the older edition; for every byte of the three buffers. Assumes nothing.
use Rattle.std.specs.Prelude.{ℕ, ◌≡◌, List, Ok}
use Rattle.layout.specs.Control.{older}
use Rattle.refusal.specs.Numbers.{done, number_of}
use Rattle.refusal.specs.declared.Refusal.TheVariants.{NoSegment}
use Rattle.address.specs.Address.{type_of, index_of}
use Rattle.control.specs.Control.{edition, buffers_valid}
use Rattle.translate.specs.Checks.{first_checks}
use Rattle.translate.specs.Fetches.{Fetchable}
use Rattle.translate.specs.Place.{outcome_of}
use Rattle.translate.specs.Translate.{translate_of}
use Rattle.access.specs.Loads.{load_of, fetch_of}

-- "reading what a load reads": the same number, distance and value, in the older edition from the current program's data, in the newer from 0/3
abbrev pub FetchIsLoad : Type 0
FetchIsLoad = (s c p : List ℕ) (a n : ℕ) → Fetchable c a → fetch_of s c p a n ≡ load_of s c p a n

-- "elsewhere it is 7": no fetch is accepted there
abbrev pub FetchNowhereElse : Type 0
FetchNowhereElse = (s c p : List ℕ) (a n : ℕ) → (outcome_of (fetch_of s c p a n)).number ≡ done → Fetchable c a

-- "index 3 of type 0 is reserved (4 for every kind)", once the tests before it have passed
abbrev pub OlderReserved : Type 0
OlderReserved =
    (s c p : List ℕ) (kind a n : ℕ) → edition c ≡ older → type_of a ≡ 0 → index_of a ≡ 3 → first_checks (buffers_valid s c p) kind a n ≡ Ok tt
    → (outcome_of (translate_of s c p kind a n)).number ≡ number_of NoSegment
