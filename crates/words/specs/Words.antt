-- Numbers and runs of bytes: "All stored numbers are unsigned and little-endian" (Rules: Where the rules come from). Bytes are a List ℕ,
-- and every definition is total: a byte past the end reads as 0, and a byte written past the end is dropped. Assumes nothing.
use Rattle.std.specs.Prelude.{ℕ, zero, suc, ◌+◌, ◌*◌, ◌/◌, ◌%◌, Bool, List, [], ◌∷◌, nat_eq, get_or, set}
use Rattle.choice.specs.Choice.{either}

-- "Loads, stores and fetches have size 1, 2, 4 or 8" (Rules: Order for an access)
abbrev pub is_size : ℕ → Bool
is_size n = either (nat_eq n 1) (either (nat_eq n 2) (either (nat_eq n 4) (nat_eq n 8)))

-- the number that the n bytes of s from `at` on spell, the lowest byte first
unfoldable pub word_at : ℕ → List ℕ → ℕ → ℕ
word_at zero s at = 0
word_at (suc n) s at = get_or s at 0 + 256 * word_at n s (suc at)

-- the n lowest bytes of v, the lowest first
unfoldable pub word_bytes : ℕ → ℕ → List ℕ
word_bytes zero v = []
word_bytes (suc n) v = (v % 256) ∷ word_bytes n (v / 256)

-- s with the bytes put in from `at` on: "every byte not named keeps its value" (Rules: Numbers given back)
unfoldable pub splice : List ℕ → ℕ → List ℕ → List ℕ
splice s at [] = s
splice s at (b ∷ bs) = splice (set s at b) (suc at) bs

-- the n bytes of s from `at` on
unfoldable pub bytes_at : ℕ → List ℕ → ℕ → List ℕ
bytes_at zero s at = []
bytes_at (suc n) s at = get_or s at 0 ∷ bytes_at n s (suc at)

-- n zero bytes
unfoldable pub zeros : ℕ → List ℕ
zeros zero = []
zeros (suc n) = 0 ∷ zeros n
