-- A copy's entry fits its bytes. Assumes nothing.
use Rattle.std.proofs.Common.{ℕ, ◌<◌, ◌≡◌, true, List, arith}
use Rattle.control.specs.Control.{control_valid}
use Rattle.control.proofs.Facts.{control_facts}
use Rattle.frames.proofs.Entries.{EntryRange}
use Rattle.translate.specs.declared.place.NewCopy.{NewCopy}
use Rattle.access.specs.Stores.{copy_entry}

-- the depth is below the number of live invocations
pub copy_range : (c : List ℕ) (t : NewCopy) → control_valid c ≡ true → t.account.0 < 65536 → t.page.0 < 65536 → EntryRange (copy_entry c t)
copy_range c t v a p =
    record { usage = omega arith; tag = omega arith; account = a; page = p; depth = omega (arith, (control_facts c v).few_live) }
