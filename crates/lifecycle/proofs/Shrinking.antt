-- Both regions stay right where one shrinks: the frames of the pages from n on are freed, and no other changes. No page that goes has a tag below
-- the depth, so the sizes of the callers stay at or below the new one. Assumes nothing.
use Rattle.std.proofs.Common.{ℕ, suc, ◌+◌, ◌-◌, ◌≤◌, ◌<◌, ◌≡◌, sym, ◌∙◌, true, ◌≢◌, ◌⊎◌, inl, inr, ⊎_elim, List, arith, leb-true}
use Rattle.std.proofs.Math.Decide.{dec_lt}
use Rattle.choice.proofs.Tests.{fails}
use Rattle.refusal.proofs.Checks.{need_then, need_pass}
use Rattle.control.specs.Control.{frames, depth, control_valid, size_of}
use Rattle.control.specs.declared.shadow.Region.{Region}
use Rattle.control.specs.declared.shadow.Region.TheVariants.{Heap}
use Rattle.frames.specs.Table.{frame_entry_of, usage_of, zero_entry}
use Rattle.frames.proofs.Claims.{claims_page, frame_found, found_frame}
use Rattle.regions.specs.Resize.{page_frame, all_leave, shrunk, shrink_check, sized}
use Rattle.regions.proofs.Pages.{usage_some, usage_one}
use Rattle.regions.proofs.Shrunk.{FoundAt, Among, leave_between, shrunk_only, among_or, shrunk_kept, shrunk_freed}
use Rattle.lifecycle.specs.Regions.{holds_page, HeldOnce, RegionHeld, RegionTagged, Rights}
use Rattle.lifecycle.proofs.Depths.{grown_misses}
use Rattle.lifecycle.proofs.Moves.{usage_same, one_page_lem, Moves, moved_held, Untouched}
use Rattle.lifecycle.proofs.Tagged.{moved_tagged}
use Rattle.lifecycle.proofs.Sized.{Sized, sized_is, sized_right, sized_rise, sized-depth}
use Rattle.std.specs.Prelude.{Ok}

-- the frame of a page is the one that holds it
pub page_found : (c : List ℕ) (r : Region) → RegionHeld c r → (k i : ℕ) → k < size_of c r → i < frames c → holds_page c r k i ≡ true
    → FoundAt (page_frame c r k) i
page_found c r h k i l b q =
    let o : HeldOnce c r k = h.held k l in
    found_frame c _ i
    (record {
      below = b;
      passes = q;
      before = λ j m. fails (holds_page c r k j) (λ t. omega (arith, o.only i b q, o.only j (omega arith) t));
    })

module _ (c : List ℕ) (r : Region) (n : ℕ) (valid : control_valid c ≡ true) (less : n < size_of c r) {x : List ℕ}
    (s : Sized c (shrunk c r n (size_of c r - n)) x r n) where
  -- entry i is zeros, and was that of a page that goes
  record Freed (i : ℕ) : Type 0 where
    of : Among c r n (size_of c r - n) i
    is : frame_entry_of x i ≡ zero_entry

  -- entry i is as it was, and is of none
  record Kept (i : ℕ) : Type 0 where
    none : (j : ℕ) → j < size_of c r - n → FoundAt (page_frame c r (n + j)) i → ⊥
    same : frame_entry_of x i ≡ frame_entry_of c i

  -- each entry is the one or the other
  freed_or : (i : ℕ) → Freed i ⊎ Kept i
  freed_or i =
      ⊎_elim (λ a. inl (record { of = a; is = s.entry i ∙ shrunk_freed c r n valid (size_of c r - n) i a }))
      (λ f. inr (record { none = f; same = s.entry i ∙ shrunk_kept c r n (size_of c r - n) i f }))
      (among_or c r n (size_of c r - n) i)

  -- the page that a freed entry held
  freed_page : (i : ℕ) (a : Freed i) → holds_page c r (n + a.of.at) i ≡ true
  freed_page i a = (frame_found c _ (record { 0 = i }) a.of.found).passes

  -- the region loses the pages from n on
  shrinks_moves : RegionHeld c r → Moves c x r
  shrinks_moves h =
      record {
        count = s.count;
        fewer = omega (arith, s.now);
        entry = λ i b.
            ⊎_elim
            (λ a.
            inr
            (record {
              gone = λ u. usage_some r (sym u ∙ usage_same a.is);
              was = λ k l q.
                  let m : k < n = rw s.now at l in
                  let z : k ≡ n + a.of.at =
                  one_page_lem c r i k (n + a.of.at) (omega (arith, h.most)) (omega (arith, h.most, a.of.below)) q (freed_page i a) in
                  omega arith;
            }))
            (λ f.
            inl
            (record {
              same = f.same;
              within = λ k l q.
                  elim (dec_lt k n) [
                    | yes y ↦ rw s.now y
                    | no y ↦
                        let e : n + (k - n) ≡ k = omega arith in
                        absurd (f.none (k - n) (omega arith) (rw e (page_found c r h k i l b q)))
                  ];
            }))
            (freed_or i);
      }

  -- tags and sizes stay right, where no page that goes has a tag below the depth
  shrinks_tagged : all_leave c r n (size_of c r - n) ≡ true → RegionHeld c r → RegionTagged c r → RegionTagged x r
  shrinks_tagged leave h t =
      let o : HeldOnce c r n = h.held n less in
      let found : FoundAt (page_frame c r n) o.frame = page_found c r h n o.frame less o.below o.claimed in
      let tag : depth c ≤ (frame_entry_of c o.frame).tag =
      leb-true _ _ (rw found at (leave_between c r n (size_of c r) n (omega arith) less leave)) in
      moved_tagged (shrinks_moves h)
      (sized_rise s t.rise
      (λ i some l.
      let e : suc (i - 1) ≡ i = omega arith in
      rw e at (grown_misses c r n (i - 1) (omega (arith, t.tag n o.frame less o.below o.claimed)))))
      (λ k l. sized-depth s k (rw s.now at l) (omega (arith, s.now)))
      t

  -- the other region's entries stay
  shrinks_other : (q : Region) → q ≢ r → (i : ℕ) → Untouched c x q i
  shrinks_other q d i =
      ⊎_elim
      (λ a.
      inr
      (record {
        was = λ u. d (usage_one q r (sym u ∙ (claims_page c i r _ (freed_page i a)).usage));
        is = λ u. usage_some q (sym u ∙ usage_same a.is);
      }))
      (λ f. inl f.same) (freed_or i)

  -- every use is one of those named
  shrinks_few : Rights c → (i : ℕ) → i < frames c → (frame_entry_of x i).usage ≤ usage_of Heap
  shrinks_few h i l = ⊎_elim (λ a. omega (arith, usage_same a.is)) (λ f. omega (arith, usage_same f.same, h.few i l)) (freed_or i)

-- both regions stay right
pub shrunk_right : (c : List ℕ) (r : Region) (n : ℕ) → control_valid c ≡ true → n < size_of c r → shrink_check c r n ≡ Ok tt → Rights c
    → Rights (sized (shrunk c r n (size_of c r - n)) r n)
unfolding shrink_check
shrunk_right c r n valid less accepted h =
    let g : List ℕ = shrunk c r n (size_of c r - n) in
    let leave : all_leave c r n (size_of c r - n) ≡ true = need_pass _ _ (need_then _ _ _ accepted).1 in
    let s : Sized c g (sized g r n) r n = sized_is c g r n valid (shrunk_only c r n (size_of c r - n)) (omega (arith, (h.held r).most)) in
    sized_right s (moved_held (shrinks_moves c r n valid less s (h.held r)) (h.held r))
    (shrinks_tagged c r n valid less s leave (h.held r)) (λ q d i b. shrinks_other c r n valid less s q d i)
    (shrinks_few c r n valid less s h) h
