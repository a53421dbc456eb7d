-- The heap at a return, and which pages of a region may be freed. Assumes nothing.
use Rattle.std.proofs.Common.{ℕ, ◌+◌, ◌-◌, ◌<◌, ◌≡◌, sym, ap, ◌∙◌, true, ⊎_elim, List, arith, le-leb, leb-true}
use Rattle.choice.proofs.Tests.{fails}
use Rattle.choice.proofs.Every.{every_all}
use Rattle.choice.proofs.Lowest.{lowest_ext}
use Rattle.refusal.proofs.Checks.{need_then, need_pass, need_on, need_last}
use Rattle.control.specs.Control.{frames, invocations, depth, control_valid, current_valid, size_of}
use Rattle.control.specs.declared.shadow.Region.{Region}
use Rattle.control.specs.declared.shadow.Region.TheVariants.{Heap}
use Rattle.pages.specs.declared.Page.{Page}
use Rattle.frames.specs.Table.{frame_entry_of, usage_of, claims, found_in, frame_of}
use Rattle.frames.specs.declared.claim.Claim.TheVariants.{Anonymous}
use Rattle.frames.proofs.Claims.{claims_page}
use Rattle.invoke.specs.Invoke.{returned}
use Rattle.invoke.proofs.Freed.{leaves_other}
use Rattle.invoke.proofs.Depth.{returned-frames, returned-invocations}
use Rattle.regions.specs.Resize.{page_frame, all_held, all_leave, shrink_check}
use Rattle.regions.proofs.Pages.{claims_ext}
use Rattle.regions.proofs.Shrunk.{FoundAt, leave_between}
use Rattle.lifecycle.specs.Regions.{HeldOnce, RegionHeld}
use Rattle.lifecycle.specs.Left.{Outlives, NoneBelow, FreesWhere}
use Rattle.lifecycle.proofs.Shrinking.{page_found}
use Rattle.lifecycle.proofs.Returned.{kept_entry, heap_same}

-- ---- the heap at a return

module _ (c : List ℕ) (valid : control_valid c ≡ true) (above : 1 < invocations c) (n : ℕ) (ok : current_valid c n ≡ true) where
  -- a heap frame's entry stays
  heap_entry : (i : ℕ) → i < frames c → (frame_entry_of c i).usage ≡ usage_of Heap → frame_entry_of (returned c) i ≡ frame_entry_of c i
  heap_entry i l u = kept_entry c valid above i l (leaves_other (depth c) (frame_entry_of c i) (λ t. omega arith))

  -- a page is claimed by the entries that claimed it
  heap_claims : (q : Page) (i : ℕ) → i < frames c → claims (returned c) (Anonymous Heap q) i ≡ claims c (Anonymous Heap q) i
  heap_claims q i l =
      ⊎_elim (λ e. claims_ext c (returned c) (Anonymous Heap q) i e)
      (λ t.
      fails _ (λ h. t.is (claims_page (returned c) i Heap q h).usage) ∙ sym (fails _ (λ h. t.was (claims_page c i Heap q h).usage)))
      ((heap_same c valid above n ok).entry i l)

  -- so it keeps its frame
  heap_frame : (q : Page) → frame_of (returned c) (Anonymous Heap q) ≡ frame_of c (Anonymous Heap q)
  unfolding frame_of
  heap_frame q =
      rw (returned-frames c valid above) (ap (found_in (frames c)) (lowest_ext _ _ (frames c) (heap_claims q)))

  -- all of it
  pub outlives : Outlives c
  outlives =
      record {
        shallower = omega (arith, returned-invocations c valid above);
        size = (heap_same c valid above n ok).size;
        frame = heap_frame;
        entry = heap_entry;
      }

-- ---- which pages may be freed

module _ (c : List ℕ) (r : Region) (n : ℕ) (h : RegionHeld c r) where
  -- the frame of a page within the size
  found : (k : ℕ) (l : k < size_of c r) → FoundAt (page_frame c r k) (h.held k l).frame
  found k l = page_found c r h k (h.held k l).frame l (h.held k l).below (h.held k l).claimed

  -- each page has one
  all_held_lem : all_held c r n (size_of c r - n) ≡ true
  unfolding all_held
  all_held_lem = every_all _ (size_of c r - n) (λ i l. rw (found (n + i) (omega arith)))

  -- each may leave
  all_leave_lem : NoneBelow c r n → all_leave c r n (size_of c r - n) ≡ true
  unfolding all_leave
  all_leave_lem b =
      every_all _ (size_of c r - n)
      (λ i l.
      let o : HeldOnce c r (n + i) = h.held (n + i) (omega arith) in
      rw (found (n + i) (omega arith)) (le-leb _ _ (b (n + i) o.frame (omega arith) (omega arith) o.below o.claimed)))

  -- and only so
  pub frees_where : FreesWhere c r n
  unfolding shrink_check
  frees_where =
      record {
        may = λ b. need_on _ _ _ all_held_lem ∙ need_last _ _ (all_leave_lem b);
        only = λ e k i l m b q.
            let t = need_pass _ _ (need_then _ _ _ e).1 in
            leb-true _ _ (rw (page_found c r h k i m b q) at (leave_between c r n (size_of c r) k l m t));
      }
