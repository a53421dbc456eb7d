-- Document 01, "Trials at the edges": "Marked P: proved, together as a single table." By document 02, "One", those with an absent byte
-- give 13 with its distance. With them fetches of both editions of document 02, "Six". Assumes nothing.
use Rattle.std.specs.Prelude.{ℕ, ◌+◌, Bool, true, List, [], ◌∷◌, nat_eq}
use Rattle.choice.specs.Choice.{both}
use Rattle.refusal.specs.Numbers.{done}
use Rattle.address.specs.Address.{split_of}
use Rattle.segments.specs.Kinds.{kind_load, kind_fetch, kind_load_span}
use Rattle.translate.specs.Place.{number_of_answer, distance_of_answer}
use Rattle.translate.specs.Translate.{translate_of}
use Rattle.hekthumar.specs.Answers.{fields_answer}
use Rattle.trials.specs.Settings.{Setting, plain, plain_older, one_page}

-- a trial: an address with its fields, or one that is refused with its number; or an access in a setting, with the number and the
-- distance that it gives
pub data Trial : Type 0 where
  splits : (address type index offset : ℕ) → Trial
  refuses : (address number : ℕ) → Trial
  gives : Setting → (kind address size number distance : ℕ) → Trial

-- the trials marked P, in the paper's order; then spans over an end, of which some bytes are present; then both editions, whose program, account 0,
-- has no byte: where a fetch is allowed it finds none
unfoldable pub trials : List Trial
trials =
    splits 0x030005000800 3 5 0x800
    ∷ splits 0x000001000040 0 1 0x40
    ∷ splits 0x050000001000 5 0 0x1000
    ∷ gives one_page kind_load 0x050000001000 8 13 0
    ∷ refuses 0x0001000000000000 3
    ∷ gives plain kind_load 0x0001000000000000 8 3 0
    ∷ gives plain kind_load 0x000000000000 8 4 0
    ∷ gives plain kind_load (0x030005000000 + 4088) 8 0 0
    ∷ gives plain kind_load (0x030005000000 + 4093) 8 5 0
    ∷ gives plain kind_load_span (0x030005000000 + 4093) 8 6 0
    ∷ gives plain kind_load 0x000004000070 8 0 0
    ∷ gives plain kind_load 0x000004000078 1 13 0
    ∷ gives plain kind_load (0x000002000000 + 4480) 8 0 0
    ∷ gives plain kind_load (0x000002000000 + 4488) 1 13 0
    ∷ gives plain kind_load_span (0x030005000000 + 5996) 8 13 4
    ∷ gives plain kind_load_span 0x000004000071 16 13 7
    ∷ gives plain kind_load_span (0x000002000000 + 4480) 16 13 8
    ∷ gives plain kind_fetch 0x000003000000 4 13 0
    ∷ gives plain kind_fetch 0x030000000000 4 7 0
    ∷ gives plain_older kind_fetch 0x000003000000 4 4 0
    ∷ gives plain_older kind_load 0x000003000000 4 4 0
    ∷ gives plain_older kind_fetch 0x030000000000 4 13 0
    ∷ gives plain_older kind_fetch 0x030005000000 4 7 0
    ∷ []

-- splitting the address gives these fields and this number, as a host in C has them: zero fields where it is refused
unfoldable pub split_gives : ℕ → ℕ → ℕ → ℕ → ℕ → Bool
split_gives a type index offset number =
    both (nat_eq (fields_answer (split_of a)).segment type)
    (both (nat_eq (fields_answer (split_of a)).index index)
    (both (nat_eq (fields_answer (split_of a)).offset offset) (nat_eq (fields_answer (split_of a)).number number)))

-- a trial comes out as its row says
unfoldable pub passes : Trial → Bool
passes (splits a type index offset) = split_gives a type index offset done
passes (refuses a number) = split_gives a 0 0 0 number
passes (gives t kind a n number distance) =
    both (nat_eq (number_of_answer (translate_of t.snapshot t.control t.pool kind a n)) number)
    (nat_eq (distance_of_answer (translate_of t.snapshot t.control t.pool kind a n)) distance)

-- every trial of a table does
unfoldable pub all_pass : List Trial → Bool
all_pass [] = true
all_pass (t ∷ ts) = both (passes t) (all_pass ts)
