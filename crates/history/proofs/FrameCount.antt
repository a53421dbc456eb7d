-- The frame count rule: every call keeps the invariant of stack and heap, whose frames number their pages; the copies number the pages
-- that were stored to. Assumes nothing.
use Prim.Native.Nat.{ℕ}
use mathlib.Core.Path.{◌≡◌, refl}
use mathlib.Core.Bool.{true}
use mathlib.Core.List.{List, [], ◌∷◌}
use native.Mathlib.Omega.{arith}
use lib.ListN.{length}
use Rattle.choice.proofs.Tests.{by_test}
use Rattle.refusal.proofs.Checks.{check_passed}
use Rattle.control.proofs.Facts.{buffers_facts}
use Rattle.control.specs.Buffers.{Buffers}
use Rattle.frames.proofs.Entries.{EntryRange}
use Rattle.frames.specs.declared.claim.End.TheVariants.{Highest}
use Rattle.frames.proofs.Free.{free_found_lem}
use Rattle.segments.specs.Kinds.{kind_store, kind_store_span}
use Rattle.translate.specs.Translate.{translate_of}
use Rattle.translate.specs.declared.place.Place.TheVariants.{InSnapshot, InControl, Zeros, InPool, Take}
use Rattle.translate.proofs.Accepted.{accepted}
use Rattle.translate.proofs.Stores.{take_place}
use Rattle.access.proofs.Entry.{copy_range}
use Rattle.access.specs.Stores.{copy_entry, control_after, store_control}
use Rattle.invoke.specs.declared.begin.Start.{Start}
use Rattle.invoke.specs.Invoke.{begin_number, begin_control, begin_check}
use Rattle.lifecycle.specs.Regions.{Rights, frames_with}
use Rattle.lifecycle.proofs.After.{begun_right, begin_right, call_right, return_right, resize_right}
use Rattle.lifecycle.proofs.Copied.{copied_right}
use Rattle.lifecycle.proofs.Counted.{in_use_pages}
use Rattle.records.specs.Layout.{encoded, valid_fields}
use Rattle.records.specs.Calls.{write_control}
use Rattle.hekthumar.specs.Steps.{Call, begin, translation, load, store, fetch, load_span, store_span, read_record, write_record, call, return, resize, change_list, page_view, step_of}
use Rattle.history.specs.Calls.{run}
use Rattle.history.specs.Calls as calls
use Rattle.history.specs.Replay.{started, replay, feed}
use Rattle.history.specs.Claims.{FrameCountRule}
use Rattle.history.proofs.Counted.{touched_count}
use Rattle.history.proofs.Theorem.{good_after}
use Rattle.std.specs.Prelude.{Err, Ok}
use Rattle.translate.specs.Place.{Translation}

module _ (s c p : List ℕ) (kind a n : ℕ) (h : Rights c) where
  -- a store changes at most a free entry, into a copy's
  stored : (t : Translation) → translate_of s c p kind a n ≡ t → Rights (control_after c t)
  stored (Err x) e = h
  stored (Ok (InSnapshot at)) e = h
  stored (Ok (InControl at)) e = h
  stored (Ok Zeros) e = h
  stored (Ok (InPool at)) e = h
  stored (Ok (Take t)) e =
      let u = take_place s c p kind a n e in
      let v = buffers_facts s c p (accepted s c p kind a n e refl).buffers in
      let free = free_found_lem c Highest t.frame u.free in
      let range : EntryRange (copy_entry c t) = copy_range c t v.control (rw u.account (omega arith)) (rw u.page (omega arith)) in
      copied_right c t.frame.0 (copy_entry c t) v.control free.below free.passes range refl h

-- every call keeps the invariant of stack and heap
keep_rights : (s : List ℕ) (b : Buffers) → Rights b.control → (k : Call) → Rights (step_of s b k).after.control
unfolding step_of store_control write_control
keep_rights s b h (begin x) = begin_right s b.control b.pool x h
keep_rights s b h (translation kind a n) = h
keep_rights s b h (load a n) = h
keep_rights s b h (store a n v) = stored s b.control b.pool kind_store a n h (translate_of s b.control b.pool kind_store a n) refl
keep_rights s b h (fetch a n) = h
keep_rights s b h (load_span a out) = h
keep_rights s b h (store_span a bytes) =
    stored s b.control b.pool kind_store_span a (length bytes) h (translate_of s b.control b.pool kind_store_span a (length bytes)) refl
keep_rights s b h (read_record l a) = h
keep_rights s b h (write_record l a fields) =
    let n : ℕ = length (encoded l.widths fields) in
    by_test (valid_fields l fields)
    (λ v. rw v (stored s b.control b.pool kind_store_span a n h (translate_of s b.control b.pool kind_store_span a n) refl))
    (λ v. rw v h)
keep_rights s b h (call a registers) = call_right s b.control b.pool a registers h
keep_rights s b h (return registers) = return_right s b.control b.pool registers h
keep_rights s b h (resize region n) = resize_right s b.control b.pool region n h
keep_rights s b h (change_list out) = h
keep_rights s b h (page_view a q) = h

-- and so does every list of calls
rights_run : (s : List ℕ) (b : Buffers) → Rights b.control → (ks : List Call) → Rights (run s b ks).control
unfolding run
rights_run s b h [] = h
rights_run s b h (k ∷ ks) = rights_run s (step_of s b k).after (keep_rights s b h k) ks

-- an accepted begin makes it hold
rights_begun : (s : List ℕ) (b : Buffers) (x : Start) → calls.accepted s b (begin x) ≡ true → Rights (step_of s b (begin x)).after.control
unfolding step_of begin_number begin_control
rights_begun s b x e =
    let y = check_passed (begin_check s (length b.control) (length b.pool) x) e in
    rw y (begun_right s b.control b.pool x y)

-- after every history that opens with an accepted begin
pub rights_after : (s : List ℕ) (b : Buffers) (x : Start) (ks : List Call) → calls.accepted s b (begin x) ≡ true
    → Rights (run s b (begin x ∷ ks)).control
unfolding run
rights_after s b x ks e = rights_run s (step_of s b (begin x)).after (rights_begun s b x e) ks

-- the frame count rule
pub frame_count_rule : FrameCountRule
unfolding FrameCountRule frames_with
frame_count_rule s b x ks e =
    let end = run s b (begin x ∷ ks) in
    let plain = replay s (started s) (feed s b (begin x ∷ ks)) in
    let n = in_use_pages end.control (rights_after s b x ks e) in
    let t = touched_count s end plain (good_after s b x ks e).0 in
    omega (arith, n, t)
