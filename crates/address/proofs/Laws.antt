-- Rules: "Addresses and segments": addresses split into fields and join back without loss. One test decides each arm, and the rest is arithmetic on the fields.
-- Assumes nothing.
use Rattle.std.proofs.Common.{ℕ, ◌≤◌, ◌<◌, ◌/◌, ◌%◌, ◌^◌, ◌≡◌, ◌∙◌, arith, lt-ltb, le-ltb}
use Rattle.std.specs.Prelude.{Ok, Err}
use Rattle.refusal.specs.declared.Refusal.TheVariants.{BadAddress}
use Rattle.layout.specs.Address.{offsets, addresses}
use Rattle.address.specs.Address.{type_of, index_of, offset_of, joined, with_offset, join_of, split_of}

-- ---- the two arms of each

-- an offset in range is joined
pub join_accepted : (t i o : ℕ) → o < offsets → join_of t i o ≡ Ok (record { 0 = joined t i o })
unfolding join_of
join_accepted t i o h = rw (lt-ltb o offsets h)

-- an offset out of range is refused
pub join_refused : (t i o : ℕ) → offsets ≤ o → join_of t i o ≡ Err BadAddress
unfolding join_of
join_refused t i o h = rw (le-ltb o offsets h)

-- an address in range is split
pub split_accepted : (a : ℕ) → a < addresses → split_of a ≡ Ok (record { segment_type = type_of a; index = index_of a; offset = offset_of a })
unfolding split_of
split_accepted a h = rw (lt-ltb a addresses h)

-- an address out of range is refused
pub split_refused : (a : ℕ) → addresses ≤ a → split_of a ≡ Err BadAddress
unfolding split_of
split_refused a h = rw (le-ltb a addresses h)

-- ---- without loss

-- fields in range are joined, and the address splits into them
pub split_join : (t i o : ℕ) → t < 256 → i < 65536 → o < offsets
    → (join_of t i o ≡ Ok (record { 0 = joined t i o })) × (split_of (joined t i o) ≡ Ok (record { segment_type = t; index = i; offset = o }))
split_join t i o ht hi ho =
    let et : type_of (joined t i o) ≡ t = omega arith in
    let ei : index_of (joined t i o) ≡ i = omega arith in
    let eo : offset_of (joined t i o) ≡ o = omega arith in
    (join_accepted t i o ho, split_accepted (joined t i o) (omega arith) ∙ cc)

-- an address in range is split, and its fields join back to it
pub join_split : (a : ℕ) → a < addresses
    → (split_of a ≡ Ok (record { segment_type = type_of a; index = index_of a; offset = offset_of a }))
    × (join_of (type_of a) (index_of a) (offset_of a) ≡ Ok (record { 0 = a }))
join_split a h =
    let e : joined (type_of a) (index_of a) (offset_of a) ≡ a = omega arith in
    (split_accepted a h, join_accepted (type_of a) (index_of a) (offset_of a) (omega arith) ∙ cc)

-- ---- another offset

module _ (a o : ℕ) where
  -- the type stays
  pub type_with : type_of (with_offset a o) ≡ type_of a
  type_with = omega arith

  -- the index stays
  pub index_with : index_of (with_offset a o) ≡ index_of a
  index_with = omega arith

  -- the offset is the low 24 bits of the one given
  pub offset_with : offset_of (with_offset a o) ≡ o % 2 ^ 24
  offset_with = omega arith

  -- every bit above the offset stays, those above the 48 too
  pub upper_with : with_offset a o / 2 ^ 24 ≡ a / 2 ^ 24
  upper_with = omega arith
