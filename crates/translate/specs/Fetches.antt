-- Document 02, "Six": where a fetch is allowed in each edition. Assumes nothing.
use Rattle.std.specs.Prelude.{ℕ, ◌≡◌, ◌⊎◌, List}
use Rattle.layout.specs.Control.{older, newer}
use Rattle.address.specs.Address.{type_of, index_of}
use Rattle.control.specs.Control.{edition}
use Rattle.translate.specs.Translate.{program}

-- the older: "Fetch is allowed in type 3 for the current program's account"
pub record InOwnData (c : List ℕ) (a : ℕ) : Type 0 where
  pub built : edition c ≡ older
  pub type : type_of a ≡ 3
  pub index : index_of a ≡ (program c).0

-- the newer: document 01, "Fetch is allowed in 0/3 only."
pub record InProgram (c : List ℕ) (a : ℕ) : Type 0 where
  pub built : edition c ≡ newer
  pub type : type_of a ≡ 0
  pub index : index_of a ≡ 3

-- either
abbrev pub Fetchable : List ℕ → ℕ → Type 0
Fetchable c a = InOwnData c a ⊎ InProgram c a
