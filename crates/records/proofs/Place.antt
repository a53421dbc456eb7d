-- The place that a span load is answered with under the control block that an accepted span store at the same address left: where the store's bytes
-- went. Assumes nothing.
use Rattle.std.proofs.Common.{ℕ, ◌<◌, ◌≡◌, refl, true, List, arith, leb}
use Rattle.choice.proofs.Tests.{by_test}
use Rattle.address.specs.Address.{offset_of}
use Rattle.control.specs.Control.{frames, depth, control_valid}
use Rattle.control.specs.declared.shadow.Region.{Region}
use Rattle.control.proofs.Facts.{control_facts}
use Rattle.pages.specs.Pages.{in_frame, page_of}
use Rattle.pages.specs.declared.Frame.{Frame}
use Rattle.frames.specs.Table.{frame_entry_of, holds, frame_of, free_frame}
use Rattle.frames.specs.declared.claim.Claim.TheVariants.{Anonymous}
use Rattle.frames.proofs.Entries.{EntryRange}
use Rattle.frames.proofs.Claims.{copy_holds, frame_taken}
use Rattle.frames.specs.declared.claim.End.TheVariants.{Highest}
use Rattle.frames.proofs.Free.{free_found_lem}
use Rattle.segments.specs.Kinds.{kind_load_span, kind_store_span}
use Rattle.translate.specs.Translate.{copy_place, data_place_in, data_place, region_place_in, region_place, buffer_place, place_in}
use Rattle.translate.specs.declared.place.Place.{Place}
use Rattle.translate.specs.declared.place.Place.TheVariants.{InPool}
use Rattle.translate.specs.declared.place.NewCopy.{NewCopy}
use Rattle.translate.specs.declared.sought.Source.{Source}
use Rattle.translate.specs.declared.sought.Source.TheVariants as source
use Rattle.translate.specs.declared.sought.Buffer.{Buffer}
use Rattle.translate.specs.declared.sought.Buffer.TheVariants as buffer
use Rattle.translate.proofs.Answered.{one_place, refused_not}
use Rattle.translate.proofs.Accepted.{request_of, account_of}
use Rattle.translate.proofs.Stores.{copy_of}
use Rattle.access.proofs.Entry.{copy_range}
use Rattle.access.specs.Stores.{Writable, place_in_pool, copy_entry, taken_control, prepared_control}
use Rattle.std.specs.Prelude.{None, Ok, Option, Some}

-- ---- the frame that was taken

-- what a store takes where f is the free frame that copies take
abbrev new_copy : ℕ → Frame → NewCopy
new_copy a f = record { at = in_frame f (offset_of a); frame = f; account = account_of a; page = page_of (offset_of a) }

module _ (c : List ℕ) (a : ℕ) (f : Frame) where
  -- its entry holds the page
  copy_held : holds (copy_of a) (copy_entry c (new_copy a f)) ≡ true
  copy_held = copy_holds _ _ (copy_entry c (new_copy a f)) (record { usage = refl; account = refl; page = refl })

  -- so it is the frame of the page, which had none
  taken_frame : control_valid c ≡ true → frame_of c (copy_of a) ≡ None → free_frame Highest c ≡ Some f → frame_of (taken_control c (new_copy a f)) (copy_of a) ≡ Some f
  taken_frame v none h =
      let l : f.0 < frames c = (free_found_lem c Highest f h).below in
      let range : EntryRange (copy_entry c (new_copy a f)) = copy_range c (new_copy a f) v (omega arith) (omega arith) in
      frame_taken c f.0 (copy_entry c (new_copy a f)) range (omega (arith, (control_facts c v).size)) (copy_of a) none l copy_held

-- ---- the place of a page

module _ (c : List ℕ) (a : ℕ) {q : Place} where
  -- a page of a region has the frame that it had, and a load asks for no tag
  region_again : (r : Region) (x : Option Frame) → frame_of c (Anonymous r (page_of (offset_of a))) ≡ x
      → region_place_in c kind_store_span (offset_of a) x ≡ Ok q
      → region_place (prepared_control c q) r kind_load_span (offset_of a) ≡ Ok (InPool (place_in_pool q))
  unfolding region_place
  region_again r (Some f) h e =
      by_test (leb (depth c) (frame_entry_of c f.0).tag)
      (λ t. rw (← one_place (rw t at e), h)) (λ t. absurd (refused_not (rw t at e)))
  region_again r None h e = absurd (refused_not e)

  module _ (v : control_valid c ≡ true) (at at' : ℕ) where
    -- a page of account data that had no frame has the one that was taken for it
    taken_again : frame_of c (copy_of a) ≡ None → (x : Option Frame) → free_frame Highest c ≡ x → copy_place (account_of a) (offset_of a) x ≡ Ok q
        → data_place (prepared_control c q) kind_load_span (account_of a) (offset_of a) at' ≡ Ok (InPool (place_in_pool q))
    unfolding data_place
    taken_again none (Some f) h e = rw (← one_place e, taken_frame c a f v none h)
    taken_again none None h e = absurd (refused_not e)

    -- and one that had a frame has it still
    data_again : (x : Option Frame) → frame_of c (copy_of a) ≡ x → data_place_in c kind_store_span (account_of a) (offset_of a) at x ≡ Ok q
        → data_place (prepared_control c q) kind_load_span (account_of a) (offset_of a) at' ≡ Ok (InPool (place_in_pool q))
    unfolding data_place
    data_again (Some f) h e = rw (← one_place e, h)
    data_again None h e = taken_again h (free_frame Highest c) refl e

-- ---- the place of a row's bytes

-- a store's place is in no buffer but the pool
plain_not : (s c p : List ℕ) (b : Buffer) (at : ℕ) → Writable s c p (buffer_place b at) → ⊥
plain_not s c p buffer.Snapshot at w = w
plain_not s c p buffer.Control at w = w
plain_not s c p buffer.Zeros at w = w

-- so bytes of any source are found where they went
pub place_again : (s c p : List ℕ) (a n at at' : ℕ) {q : Place} → control_valid c ≡ true → Writable s c p q → (x : Source)
    → place_in c (request_of kind_store_span a n) x at ≡ Ok q
    → place_in (prepared_control c q) (request_of kind_load_span a n) x at' ≡ Ok (InPool (place_in_pool q))
unfolding place_in data_place region_place
place_again s c p a n at at' v w (source.Plain b) e = absurd (plain_not s c p b at (rw (← one_place e) at w))
place_again s c p a n at at' v w source.Copy e = data_again c a v at at' _ refl e
place_again s c p a n at at' v w (source.Region r) e = region_again c a r _ refl e
