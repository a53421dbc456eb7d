use Rattle.std.proofs.Common.{◌≡◌, ℕ, List, arith}
use Rattle.translate.specs.Translate.{data_place, data_place_in}
use Rattle.translate.proofs.framed.data_place.Goals as goal
use Rattle.snapshot.specs.declared.accounts.Account.{Account}
use Rattle.control.proofs.Facts.{ControlFacts, control_facts}
use Rattle.pages.specs.Pages.{page_of}
use Rattle.pages.specs.declared.Page.{Page}
use Rattle.frames.specs.Table.{frame_of}
use Rattle.frames.specs.declared.claim.Claim.TheVariants.{Copy}
use Rattle.frames.proofs.Claims.{search_found, search_none}
use Rattle.std.specs.Prelude.{Option}
use Rattle.pages.specs.declared.Frame.{Frame}

-- `translate::framed::data_place` meets its contract: the frame that was found decides, and where there is none the kind. Assumes nothing.
-- the definition looks at what was found
looked : (c : List ℕ) (kind : ℕ) (a : Account) (offset : ℕ) (at : ℕ) {p : Page} {x : Option Frame} → p ≡ page_of offset
    → frame_of c (Copy a p) ≡ x → data_place c kind a offset at ≡ data_place_in c kind a offset at x
unfolding data_place
looked c kind a offset at page found = rw (← page, found)

pub frame_count-frames-requires : goal.frame_count-frames-requires
frame_count-frames-requires c = (control_facts _ c.requires.0).header

pub lowest_copy-i-requires : goal.lowest_copy-i-requires
lowest_copy-i-requires c =
    let v : ControlFacts _ = control_facts _ c.requires.0 in
    omega arith

pub overflow_cast-i : goal.overflow_cast-i
overflow_cast-i c = let v : ControlFacts _ = control_facts _ c.requires.0 in omega arith

pub returns-then-i-frames : goal.returns-then-i-frames
returns-then-i-frames c =
    rw (looked _ _ _ _ _ c.page_of.ensures (search_found _ _ c.frame_count-frames.ensures.0 c.lowest_copy-i.ensures c.if-i-frames.true), c.in_frame.ensures)

pub returns-then-is_store : goal.returns-then-is_store
returns-then-is_store c =
    rw ((looked _ _ _ _ _ c.page_of.ensures (search_none _ _ c.frame_count-frames.ensures.0 c.lowest_copy-i.ensures c.if-i-frames.false)), ← c.is_store.ensures, c.if-is_store.true) c.copy_place.ensures

pub returns : goal.returns
returns c = rw ((looked _ _ _ _ _ c.page_of.ensures (search_none _ _ c.frame_count-frames.ensures.0 c.lowest_copy-i.ensures c.if-i-frames.false)), ← c.is_store.ensures, c.if-is_store.false)
