-- What an invocation may do on the heap, its caller may after the return: the pages keep their frames and tags, the caller has as many, and it is
-- less deep. Assumes nothing.
use Prim.Native.Nat.{ℕ, ◌≤◌}
use mathlib.Core.Path.{◌≡◌, refl, sym, ap, ◌∙◌}
use mathlib.Core.Bool.{Bool, true, false, not}
use mathlib.Core.List.{List}
use native.Mathlib.Omega.{arith}
use lib.Dec.{eqb, leb}
use borrow.Author.Tests.{le-leb, leb-true}
use Rattle.std.proofs.Common.{Some, None}
use Rattle.choice.specs.Choice.{pick, either}
use Rattle.choice.proofs.Tests.{by_test}
use Rattle.refusal.specs.declared.Refusal.TheVariants.{NoSegment, NotPermitted}
use Rattle.refusal.proofs.Checks.{need_then}
use Rattle.address.specs.Address.{type_of, index_of, offset_of}
use Rattle.snapshot.specs.Header.{accounts}
use Rattle.control.specs.Control.{depth, edition, current, buffers_valid}
use Rattle.control.specs.declared.shadow.Region.TheVariants as region
use Rattle.pages.specs.Pages.{page_of}
use Rattle.frames.specs.Table.{frame_entry_of, frame_of}
use Rattle.frames.specs.declared.claim.Claim.TheVariants.{Anonymous}
use Rattle.frames.specs.declared.table.FrameEntry.{FrameEntry}
use Rattle.frames.proofs.Claims.{claims_page, frame_found}
use Rattle.segments.specs.Kinds.{is_store}
use Rattle.segments.specs.Rules.{row, rules, row_of, segment_of, permitted}
use Rattle.segments.specs.declared.rules.Editions.TheVariants.{Both}
use Rattle.segments.specs.declared.rules.FetchRule.TheVariants.{Nowhere}
use Rattle.segments.specs.declared.rules.IndexRule.TheVariants.{Exactly}
use Rattle.segments.specs.declared.rules.Presence.TheVariants.{Heap}
use Rattle.segments.specs.declared.rules.StoreRule.TheVariants.{Tag}
use Rattle.translate.specs.Place.{refusing, Translation}
use Rattle.translate.specs.Checks.{first_checks, row_checks}
use Rattle.translate.specs.Translate.{concerned_valid, owned, running, region_end, end_of, row_check, source_of, region_place_in, region_place, place_in, place_of, in_row, in_segment, translate_of}
use Rattle.translate.specs.declared.place.Place.{Place}
use Rattle.translate.specs.declared.place.Place.TheVariants.{InPool}
use Rattle.translate.proofs.Answered.{refused_not}
use Rattle.translate.proofs.Accepted.{request_of}
use Rattle.invoke.specs.Invoke.{return_check, returned}
use Rattle.invoke.proofs.Accepted.{ReturnFacts, return_facts}
use Rattle.lifecycle.specs.Left.{Outlives}
use Rattle.lifecycle.proofs.Left.{outlives}
use Rattle.history.specs.Heap.{LeftUsable}
use Rattle.std.specs.Prelude.{Err, None, Ok, Option, Some}
use Rattle.refusal.specs.Checks.{Check}
use Rattle.pages.specs.declared.Frame.{Frame}

-- ---- an access of type 7

-- its row
heap_row : (v index count : ℕ) → segment_of v 7 index count ≡ pick (eqb index 0) (Some (row 7 (Exactly 0) Both Heap Nowhere Tag)) None
unfolding segment_of row_of rules
heap_row v index count = by_test (eqb index 0) (λ e. rw e) (λ e. rw e)

-- its answer in that row, by the heap's size and the place in a frame
abbrev row_answer : ℕ → ℕ → ℕ → ℕ → Translation → Translation
row_answer kind a n size place =
    pick (eqb (index_of a) 0)
    (refusing (row_checks true (permitted kind Nowhere Tag false false) (request_of kind a n) (region_end region.Heap size (offset_of a))) place)
    (Err NoSegment)

-- and whether the buffers are valid
abbrev heap_answer : ℕ → ℕ → ℕ → Bool → ℕ → Translation → Translation
heap_answer kind a n valid size place = refusing (first_checks valid kind a n) (row_answer kind a n size place)

-- the place in a frame
abbrev heap_place : List ℕ → ℕ → ℕ → Translation
heap_place c kind a = region_place c region.Heap kind (offset_of a)

heap_translated : (s c p : List ℕ) (kind a n : ℕ) → type_of a ≡ 7
    → translate_of s c p kind a n ≡ heap_answer kind a n (buffers_valid s c p) (current c).heap (heap_place c kind a)
unfolding translate_of in_segment in_row row_check concerned_valid owned running end_of place_of source_of place_in
heap_translated s c p kind a n t =
    rw (t, heap_row (edition c) (index_of a) (accounts s)) (by_test (eqb (index_of a) 0) (λ e. rw e) (λ e. rw e))

-- where it is allowed, so is the place
passes : (k : Check) (t : Translation) {x : Place} → refusing k t ≡ Ok x → t ≡ Ok x
passes (Ok tt) t e = e
passes (Err r) t e = absurd (refused_not e)

allowed_place : (kind a n : ℕ) (valid : Bool) (size : ℕ) (t : Translation) {x : Place} → heap_answer kind a n valid size t ≡ Ok x → t ≡ Ok x
allowed_place kind a n valid size t {x} e =
    let f : row_answer kind a n size t ≡ Ok x = passes (first_checks valid kind a n) (row_answer kind a n size t) e in
    by_test (eqb (index_of a) 0)
    (λ z. passes (row_checks true (permitted kind Nowhere Tag false false) (request_of kind a n) (region_end region.Heap size (offset_of a))) t (rw z at f))
    (λ z. absurd (refused_not {r = NoSegment} {x = x} (rw z at f)))

-- ---- the place after the return

-- where a tag is at or above the depth, it is at or above a lesser one
tag_allows : (kind d d' t t' : ℕ) (x : Translation) {y : Place} → d' ≤ d → t' ≡ t
    → pick (either (not (is_store kind)) (leb d t)) x (Err NotPermitted) ≡ Ok y
    → pick (either (not (is_store kind)) (leb d' t')) x (Err NotPermitted) ≡ Ok y
tag_allows kind d d' t t' x less same h =
    rw same
    (by_test (is_store kind)
    (λ s.
    by_test (leb d t) (λ u. rw (s, le-leb d' t (omega (arith, leb-true d t u))) (rw (s, u) at h)) (λ u. absurd (refused_not (rw (s, u) at h))))
    (λ s. rw s (rw s at h)))

module _ (c : List ℕ) (o : Outlives c) (kind a at : ℕ) where
  -- the frame of a page, with its tag
  frame_stays : (f : Option Frame) → frame_of c (Anonymous region.Heap (page_of (offset_of a))) ≡ f → region_place_in c kind (offset_of a) f ≡ Ok (InPool at)
      → region_place_in (returned c) kind (offset_of a) f ≡ Ok (InPool at)
  frame_stays None e h = absurd (refused_not h)
  frame_stays (Some f) e h =
      let x = frame_found c (Anonymous region.Heap (page_of (offset_of a))) f e in
      let same = o.entry f.0 x.below (claims_page c f.0 region.Heap (page_of (offset_of a)) x.passes).usage in
      tag_allows kind (depth c) (depth (returned c)) (frame_entry_of c f.0).tag (frame_entry_of (returned c) f.0).tag _
      (omega (arith, o.shallower)) (ap (λ (y : FrameEntry). y.tag) same) h

  -- so does the place
  place_stays : heap_place c kind a ≡ Ok (InPool at) → heap_place (returned c) kind a ≡ Ok (InPool at)
  unfolding region_place
  place_stays h = rw (o.frame (page_of (offset_of a))) (frame_stays (frame_of c (Anonymous region.Heap (page_of (offset_of a)))) refl h)

-- ---- the access

pub left_usable : LeftUsable
unfolding LeftUsable return_check
left_usable s c p room accepted valid kind a n at t e =
    let f : ReturnFacts s c p room = return_facts s c p room accepted in
    let was : buffers_valid s c p ≡ true = (need_then _ _ _ accepted).0 in
    let o : Outlives c = outlives c f.buffers.control f.above (accounts s) f.buffers.current in
    let answer = sym (heap_translated s c p kind a n t) ∙ e in
    let place = allowed_place kind a n (buffers_valid s c p) (current c).heap (heap_place c kind a) answer in
    heap_translated s (returned c) p kind a n t
    ∙ rw (valid, o.size, place_stays c o kind a at place) (rw (was, place) at answer)
