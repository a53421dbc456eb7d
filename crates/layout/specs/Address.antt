-- Document 01, "Addresses and segments": the limits of an address's fields. Assumes nothing.
use Rattle.std.specs.Prelude.{ℕ, ◌^◌}

-- addresses lie below this: "Of the 48 bits"
abbrev pub addresses : ℕ
addresses = 2 ^ 48

-- offsets lie below this: "23..0 offset"
abbrev pub offsets : ℕ
offsets = 2 ^ 24
