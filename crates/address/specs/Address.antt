-- Rules: "Addresses and segments". An address is a number. Assumes nothing.
use Rattle.std.specs.Prelude.{ℕ, ◌+◌, ◌*◌, ◌/◌, ◌%◌, ◌^◌, nat_lt, Result, Ok, Err}
use Rattle.layout.specs.Address.{offsets, addresses}
use Rattle.choice.specs.Choice.{pick}
use Rattle.refusal.specs.declared.Refusal.{Refusal}
use Rattle.refusal.specs.declared.Refusal.TheVariants.{BadAddress}
use Rattle.address.specs.declared.Address.{Address}
use Rattle.address.specs.declared.Fields.{Fields}

-- "47..40 are type"
abbrev pub type_of : ℕ → ℕ
type_of a = a / 2 ^ 40 % 256

-- "39..24 index"
abbrev pub index_of : ℕ → ℕ
index_of a = a / 2 ^ 24 % 65536

-- "23..0 offset"
abbrev pub offset_of : ℕ → ℕ
offset_of a = a % 2 ^ 24

-- the number with these fields
abbrev pub joined : ℕ → ℕ → ℕ → ℕ
joined type index offset = type * 2 ^ 40 + index * 2 ^ 24 + offset

-- "one giving itself back with another offset": every other bit stays, and of the offset given the low 24 bits count
abbrev pub with_offset : ℕ → ℕ → ℕ
with_offset a offset = a / 2 ^ 24 * 2 ^ 24 + offset % 2 ^ 24

-- "Joining takes a byte, a u16 and an offset; it refuses an offset of 2^24 or more with 3"
unfoldable pub join_of : ℕ → ℕ → ℕ → Result Address Refusal
join_of type index offset = pick (nat_lt offset offsets) (Ok (record { 0 = joined type index offset })) (Err BadAddress)

-- "Splitting refuses set upper bits with 3"
unfoldable pub split_of : ℕ → Result Fields Refusal
split_of a =
    pick (nat_lt a addresses) (Ok (record { segment_type = type_of a; index = index_of a; offset = offset_of a })) (Err BadAddress)
