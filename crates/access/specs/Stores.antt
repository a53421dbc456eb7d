-- Document 01, "Order for an access" and "Copies", with document 02, "Eight": stores and span stores. Assumes nothing.
use Rattle.std.specs.Prelude.{ℕ, List, length, Err, Ok}
use Rattle.layout.specs.Control.{usage_copy}
use Rattle.words.specs.Words.{splice}
use Rattle.refusal.specs.Checks.{Check}
use Rattle.control.specs.Control.{depth}
use Rattle.pages.specs.Pages.{frame_start, original_page}
use Rattle.frames.specs.Table.{put_frame_entry}
use Rattle.frames.specs.declared.table.FrameEntry.{FrameEntry}
use Rattle.translate.specs.Place.{outcome_of, accepted, Translation, Outcome}
use Rattle.translate.specs.Translate.{translate_of}
use Rattle.translate.specs.declared.place.NewCopy.{NewCopy}
use Rattle.translate.specs.declared.place.Place.{Place}
use Rattle.translate.specs.declared.place.Place.TheVariants.{InSnapshot, InControl, Zeros, InPool, Take}
use Rattle.translate.specs.Fits.{CopyFits}

-- a store's place is in the pool, or a frame to be taken: translation gives a store no other
abbrev pub Writable : List ℕ → List ℕ → List ℕ → Place → Type 0
Writable s c p (InSnapshot at) = ⊥
Writable s c p (InControl at) = ⊥
Writable s c p Zeros = ⊥
Writable s c p (InPool at) = Unit {0}
Writable s c p (Take t) = CopyFits s c p t

-- where the bytes go, once the page has its frame
abbrev pub place_in_pool : Place → ℕ
place_in_pool (InSnapshot at) = 0
place_in_pool (InControl at) = 0
place_in_pool Zeros = 0
place_in_pool (InPool at) = at
place_in_pool (Take t) = t.at

-- "writes its entry (use 1, tag 0, account, page, 0)", whose last "becomes, for copies, the depth at the store that made the copy"
abbrev pub copy_entry : List ℕ → NewCopy → FrameEntry
copy_entry c t = record { usage = usage_copy; tag = 0; account = t.account; page = t.page; depth = depth c }

-- the control block with a copy's entry
abbrev pub taken_control : List ℕ → NewCopy → List ℕ
taken_control c t = put_frame_entry c t.frame.0 (copy_entry c t)

-- "copies the page's original bytes, fills the rest with zeros"
abbrev pub taken_pool : List ℕ → List ℕ → NewCopy → List ℕ
taken_pool s p t = splice p (frame_start t.frame) (original_page s t.account t.page)

-- where a frame is taken, "writes its entry"
abbrev pub prepared_control : List ℕ → Place → List ℕ
prepared_control c (InSnapshot at) = c
prepared_control c (InControl at) = c
prepared_control c Zeros = c
prepared_control c (InPool at) = c
prepared_control c (Take t) = taken_control c t

-- the pool once the page has its frame
abbrev pub prepared_pool : List ℕ → List ℕ → Place → List ℕ
prepared_pool s p (InSnapshot at) = p
prepared_pool s p (InControl at) = p
prepared_pool s p Zeros = p
prepared_pool s p (InPool at) = p
prepared_pool s p (Take t) = taken_pool s p t

-- the control block after an answer: a refusal leaves it
abbrev pub control_after : List ℕ → Translation → List ℕ
control_after c (Ok q) = prepared_control c q
control_after c (Err r) = c

-- the pool with the bytes at a place: "then stores". A store has no other place than these two; at any other the pool stays
abbrev pub stored_at : List ℕ → List ℕ → List ℕ → Place → List ℕ
stored_at s p bytes (InSnapshot at) = p
stored_at s p bytes (InControl at) = p
stored_at s p bytes Zeros = p
stored_at s p bytes (InPool at) = splice p at bytes
stored_at s p bytes (Take t) = splice (taken_pool s p t) t.at bytes

-- the pool after an answer
abbrev pub pool_after : List ℕ → List ℕ → List ℕ → Translation → List ℕ
pool_after s p bytes (Ok q) = stored_at s p bytes q
pool_after s p bytes (Err r) = p

-- a store of either kind: it is allowed, or refused
unfoldable pub store_of : List ℕ → List ℕ → List ℕ → ℕ → ℕ → ℕ → Check
store_of s c p kind a n = accepted (translate_of s c p kind a n)

-- its number and distance
unfoldable pub store_outcome : List ℕ → List ℕ → List ℕ → ℕ → ℕ → ℕ → Outcome
store_outcome s c p kind a n = outcome_of (translate_of s c p kind a n)

-- the control block after a store
unfoldable pub store_control : List ℕ → List ℕ → List ℕ → ℕ → ℕ → ℕ → List ℕ
store_control s c p kind a n = control_after c (translate_of s c p kind a n)

-- the pool after a store of these bytes
unfoldable pub store_pool : List ℕ → List ℕ → List ℕ → ℕ → ℕ → List ℕ → List ℕ
store_pool s c p kind a bytes = pool_after s p bytes (translate_of s c p kind a (length bytes))
