-- Document 02, "Four": what a caller may do on the heap after a return, as a statement. Assumes nothing.
use Rattle.std.specs.Prelude.{ℕ, ◌≡◌, true, List, Ok}
use Rattle.address.specs.Address.{type_of}
use Rattle.control.specs.Control.{buffers_valid}
use Rattle.translate.specs.Translate.{translate_of}
use Rattle.translate.specs.declared.place.Place.TheVariants.{InPool}
use Rattle.invoke.specs.Invoke.{return_check, returned}

-- "By the tag rule a shallower program may then store to what a deeper one left": every access of the heap, type 7, that an invocation is allowed
-- its caller is allowed after the return, at the same place, where the caller's record is valid
unfoldable pub LeftUsable : Type 0
LeftUsable =
    (s c p : List ℕ) (room : ℕ) → return_check s c p room ≡ Ok tt → buffers_valid s (returned c) p ≡ true → (kind a n at : ℕ) → type_of a ≡ 7
    → translate_of s c p kind a n ≡ Ok (InPool at)
    → translate_of s (returned c) p kind a n ≡ Ok (InPool at)
