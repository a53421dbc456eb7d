-- A region's pages stay held where each entry is as it was, its page within the size, or is not the region's and held no page within it.
-- Where the size stays, it is enough that the entries that change were and are not the region's. Tags play no part. Assumes nothing.
use Rattle.std.proofs.Common.{ℕ, ◌≤◌, ◌<◌, ◌≡◌, sym, ap, ◌∙◌, true, ◌≢◌, ◌⊎◌, inl, inr, ⊎_elim, List, arith, eqb-true}
use Rattle.layout.specs.Page.{page_limit}
use Rattle.choice.proofs.Tests.{fails}
use Rattle.control.specs.Control.{frames, size_of}
use Rattle.control.specs.declared.shadow.Region.{Region}
use Rattle.frames.specs.Table.{frame_entry_of, usage_of, is_free}
use Rattle.frames.specs.declared.table.FrameEntry.{FrameEntry}
use Rattle.frames.proofs.Claims.{claims_page}
use Rattle.regions.specs.Resize.{page_at}
use Rattle.regions.proofs.Pages.{page_one, usage_some, claims_ext}
use Rattle.lifecycle.specs.Regions.{holds_page, HeldOnce, OfPage, RegionHeld}

-- ---- entries

-- equal entries have one use
pub usage_same : {e e' : FrameEntry} → e ≡ e' → e.usage ≡ e'.usage
usage_same h = ap (λ (x : FrameEntry). x.usage) h

-- a free entry is no region's
pub free_foreign : (c : List ℕ) (i : ℕ) (r : Region) → is_free c i ≡ true → (frame_entry_of c i).usage ≢ usage_of r
unfolding is_free
free_foreign c i r f u = usage_some r (sym u ∙ eqb-true _ _ f)

-- an entry holds one page
pub one_page_lem : (c : List ℕ) (r : Region) (i j k : ℕ) → j < page_limit → k < page_limit → holds_page c r j i ≡ true → holds_page c r k i ≡ true → j ≡ k
one_page_lem c r i j k l m p q = page_one r j k l m (sym (claims_page c i r (page_at r j) p).page ∙ (claims_page c i r (page_at r k) q).page)

-- ---- one page

-- a page that is claimed as before is held as before
pub held_kept : (c c' : List ℕ) (r : Region) (k : ℕ) → frames c' ≡ frames c
    → ((i : ℕ) → i < frames c → holds_page c' r k i ≡ holds_page c r k i) → HeldOnce c r k → HeldOnce c' r k
held_kept c c' r k count same h =
    record {
      frame = h.frame;
      below = rw count h.below;
      claimed = same h.frame h.below ∙ h.claimed;
      only = λ i l q. let m : i < frames c = rw count at l in h.only i m (sym (same i m) ∙ q);
    }

-- ---- no page more

-- entry i is as it was, and its page is within the size
pub record Stays (c c' : List ℕ) (r : Region) (i : ℕ) : Type 0 where
  pub same : frame_entry_of c' i ≡ frame_entry_of c i
  pub within : (k : ℕ) → k < size_of c r → holds_page c r k i ≡ true → k < size_of c' r

-- entry i is not the region's, and held no page within the size
pub record Leaves (c c' : List ℕ) (r : Region) (i : ℕ) : Type 0 where
  pub gone : (frame_entry_of c' i).usage ≢ usage_of r
  pub was : (k : ℕ) → k < size_of c' r → holds_page c r k i ≡ true → ⊥

-- c' is c with no page of the region more
pub record Moves (c c' : List ℕ) (r : Region) : Type 0 where
  pub count : frames c' ≡ frames c
  pub fewer : size_of c' r ≤ size_of c r
  pub entry : (i : ℕ) → i < frames c → Stays c c' r i ⊎ Leaves c c' r i

-- the region's pages stay held
pub moved_held : {c c' : List ℕ} {r : Region} → Moves c c' r → RegionHeld c r → RegionHeld c' r
moved_held {c} {c'} {r} m h =
    record {
      most = omega (arith, m.fewer, h.most);
      held = λ k l.
          held_kept c c' r k m.count
          (λ i b.
          ⊎_elim (λ s. claims_ext c c' _ i s.same)
          (λ g. fails _ (λ q. g.gone (claims_page c' i r _ q).usage) ∙ sym (fails _ (g.was k l))) (m.entry i b))
          (h.held k (omega (arith, m.fewer)));
      only = λ i l u.
          let b : i < frames c = rw m.count at l in
          ⊎_elim
          (λ s.
          let o : OfPage c r i = h.only i b (sym (usage_same s.same) ∙ u) in
          record {
            page = o.page;
            below = s.within o.page o.below o.held;
            held = claims_ext c c' _ i s.same ∙ o.held;
          })
          (λ g. absurd (g.gone u)) (m.entry i b);
    }

-- ---- the size stays

-- entry i was and is not the region's
pub record Foreign (c c' : List ℕ) (r : Region) (i : ℕ) : Type 0 where
  pub was : (frame_entry_of c i).usage ≢ usage_of r
  pub is : (frame_entry_of c' i).usage ≢ usage_of r

-- entry i is as it was, or was and is not the region's
abbrev pub Untouched : List ℕ → List ℕ → Region → ℕ → Type 0
Untouched c c' r i = (frame_entry_of c' i ≡ frame_entry_of c i) ⊎ Foreign c c' r i

-- the size stays, and so do the region's entries
pub record Same (c c' : List ℕ) (r : Region) : Type 0 where
  pub count : frames c' ≡ frames c
  pub size : size_of c' r ≡ size_of c r
  pub entry : (i : ℕ) → i < frames c → Untouched c c' r i

-- so there is no page more
pub same_moves : {c c' : List ℕ} {r : Region} → Same c c' r → Moves c c' r
same_moves {c} {c'} {r} s =
    record {
      count = s.count;
      fewer = omega (arith, s.size);
      entry = λ i b.
          ⊎_elim (λ e. inl (record { same = e; within = λ k l q. rw s.size l }))
          (λ t. inr (record { gone = t.is; was = λ k l q. t.was (claims_page c i r _ q).usage }))
          (s.entry i b);
    }

-- and the region's pages stay held
pub same_held : {c c' : List ℕ} {r : Region} → Same c c' r → RegionHeld c r → RegionHeld c' r
same_held s = moved_held (same_moves s)
