-- What a place says of the buffers: all bytes of the access lie in them. Assumes nothing.
use Rattle.std.specs.Prelude.{ℕ, ◌+◌, ◌≤◌, ◌<◌, ◌≡◌, true, List, length}
use Rattle.layout.specs.Page.{page_size}
use Rattle.snapshot.specs.Header.{snapshot_valid}
use Rattle.snapshot.specs.Accounts.{known, entry_of, entry_valid, data_length}
use Rattle.control.specs.Control.{control_valid}
use Rattle.pages.specs.Pages.{frame_start, page_start}
use Rattle.frames.specs.Table.{entry_end}
use Rattle.translate.specs.declared.place.NewCopy.{NewCopy}
use Rattle.translate.specs.declared.place.Place.{Place}
use Rattle.translate.specs.declared.place.Place.TheVariants.{InSnapshot, InControl, Zeros, InPool, Take}

-- a frame and an account's page with live bytes, both there to be copied between
pub record CopyFits (s c p : List ℕ) (n : NewCopy) : Type 0 where
  pub snapshot : snapshot_valid s ≡ true
  pub account : known s n.account ≡ true
  pub entry : entry_valid s n.account ≡ true
  pub page : page_start n.page < data_length (entry_of s n.account)
  pub control : control_valid c ≡ true
  pub slot : entry_end n.frame.0 ≤ length c
  pub frame : frame_start n.frame + page_size ≤ length p

-- n bytes at a place
abbrev pub Fits : List ℕ → List ℕ → List ℕ → ℕ → Place → Type 0
Fits s c p n (InSnapshot at) = at + n ≤ length s
Fits s c p n (InControl at) = at + n ≤ length c
Fits s c p n Zeros = Unit {0}
Fits s c p n (InPool at) = at + n ≤ length p
Fits s c p n (Take t) = (t.at + n ≤ length p) × CopyFits s c p t
