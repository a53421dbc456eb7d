-- The laws of who claims what, and of the frame of a page, before and after a write of an entry. Assumes nothing.
use Rattle.std.proofs.Common.{◌≡◌, refl, sym, ap, ◌∙◌, Bool, true, false, ◌≢◌, List, ℕ, ◌≤◌, ◌<◌, arith, length, eqb, eqb-true, eq-eqb, lt-ltb, le-ltb}
use Rattle.std.proofs.Math.Decide.{ℕ_discrete}
use Rattle.layout.specs.Control.{usage_copy}
use Rattle.choice.specs.Search.{lowest}
use Rattle.choice.proofs.Tests.{both_true}
use Rattle.choice.proofs.Lowest.{lowest_ext}
use Rattle.snapshot.specs.declared.accounts.Account.{Account}
use Rattle.control.specs.Control.{frames}
use Rattle.control.specs.declared.shadow.Region.{Region}
use Rattle.control.specs.declared.shadow.Region.TheVariants.{Stack, Heap}
use Rattle.pages.specs.declared.Frame.{Frame}
use Rattle.pages.specs.declared.Page.{Page}
use Rattle.frames.specs.Table.{entry_end, frame_entry_of, put_frame_entry, usage_of, holds, claims, is_free, found_in, frame_of}
use Rattle.frames.specs.declared.table.FrameEntry.{FrameEntry}
use Rattle.frames.specs.declared.claim.Claim.{Claim}
use Rattle.frames.specs.declared.claim.Claim.TheVariants.{Copy, Anonymous}
use Rattle.frames.proofs.Entries.{EntryRange, entry_other, entry_same}
use Rattle.frames.proofs.Untouched.{frames_kept}
use Rattle.frames.proofs.Found.{First, at_first, nothing_none, first_at, none_nothing}
use Rattle.std.specs.Prelude.{None, Some}

-- ---- what an entry holds

-- the entry is a copy of the account's page
pub record IsCopy (a : Account) (p : Page) (e : FrameEntry) : Type 0 where
  pub usage : e.usage ≡ usage_copy
  pub account : e.account.0 ≡ a.0
  pub page : e.page.0 ≡ p.0

-- the entry holds the region's page
pub record IsPage (r : Region) (p : Page) (e : FrameEntry) : Type 0 where
  pub usage : e.usage ≡ usage_of r
  pub page : e.page.0 ≡ p.0

module _ (a : Account) (p : Page) (e : FrameEntry) where
  -- an entry that holds a copy has its fields
  pub holds_copy : holds (Copy a p) e ≡ true → IsCopy a p e
  holds_copy h =
      let u = both_true (eqb e.usage usage_copy) _ h in
      let v = both_true (eqb e.account.0 a.0) _ u.1 in
      record { usage = eqb-true _ _ u.0; account = eqb-true _ _ v.0; page = eqb-true _ _ v.1 }

  -- and one that has them holds it
  pub copy_holds : IsCopy a p e → holds (Copy a p) e ≡ true
  copy_holds f = rw (eq-eqb _ _ f.usage, eq-eqb _ _ f.account, eq-eqb _ _ f.page)

module _ (r : Region) (p : Page) (e : FrameEntry) where
  -- an entry that holds a region's page has its fields
  pub holds_page_lem : holds (Anonymous r p) e ≡ true → IsPage r p e
  holds_page_lem h =
      let u = both_true (eqb e.usage (usage_of r)) _ h in
      record { usage = eqb-true _ _ u.0; page = eqb-true _ _ u.1 }

  -- and one that has them holds it
  pub page_holds : IsPage r p e → holds (Anonymous r p) e ≡ true
  page_holds f = rw (eq-eqb _ _ f.usage, eq-eqb _ _ f.page)

-- the test of a free entry: its use byte is 0
abbrev pub unused : FrameEntry → Bool
unused e = eqb e.usage 0

-- an entry with use byte 0 holds nothing
pub free_holds : (e : FrameEntry) (q : Claim) → e.usage ≡ 0 → holds q e ≡ false
free_holds e (Copy a p) h = rw h
free_holds e (Anonymous Stack p) h = rw h
free_holds e (Anonymous Heap p) h = rw h

-- ---- what entry i claims

module _ (c : List ℕ) (i : ℕ) where
  -- it claims what it holds
  pub claims-holds : (q : Claim) → claims c q i ≡ holds q (frame_entry_of c i)
  unfolding claims
  claims-holds q = refl

  -- a claim of a copy gives the entry's fields
  pub claims_copy : (a : Account) (p : Page) → claims c (Copy a p) i ≡ true → IsCopy a p (frame_entry_of c i)
  unfolding claims
  claims_copy a p h = holds_copy a p (frame_entry_of c i) h

  -- and they give the claim
  pub copy_claims : (a : Account) (p : Page) → IsCopy a p (frame_entry_of c i) → claims c (Copy a p) i ≡ true
  unfolding claims
  copy_claims a p f = copy_holds a p (frame_entry_of c i) f

  -- a claim of a region's page gives the entry's fields
  pub claims_page : (r : Region) (p : Page) → claims c (Anonymous r p) i ≡ true → IsPage r p (frame_entry_of c i)
  unfolding claims
  claims_page r p h = holds_page_lem r p (frame_entry_of c i) h

  -- and they give the claim
  pub page_claims : (r : Region) (p : Page) → IsPage r p (frame_entry_of c i) → claims c (Anonymous r p) i ≡ true
  unfolding claims
  page_claims r p f = page_holds r p (frame_entry_of c i) f

  -- an entry is a copy of one page only
  pub claims_one : (a b : Account) (p q : Page) → claims c (Copy a p) i ≡ true → claims c (Copy b q) i ≡ true
      → (a.0 ≡ b.0) × (p.0 ≡ q.0)
  claims_one a b p q h g =
      let f = claims_copy a p h in
      let k = claims_copy b q g in
      (sym f.account ∙ k.account, sym f.page ∙ k.page)

  -- a free entry claims nothing
  pub free_claims : is_free c i ≡ true → (q : Claim) → claims c q i ≡ false
  unfolding claims is_free
  free_claims h q = free_holds (frame_entry_of c i) q (eqb-true _ _ h)

-- ---- the frame of a page

module _ (c : List ℕ) (q : Claim) where
  -- a search that ends at i, of all n entries
  module _ {n i : ℕ} (all : n ≡ frames c) (searched : i ≡ lowest (claims c q) n) where
    -- below n it found that frame
    pub search_found : i < n → frame_of c q ≡ Some (record { 0 = i })
    unfolding frame_of found_in
    search_found h = rw (← all, ← searched, lt-ltb i n h)

    -- else it found none
    pub search_none : n ≤ i → frame_of c q ≡ None
    unfolding frame_of found_in
    search_none h = rw (← all, ← searched, le-ltb i n h)

  -- the frame that is found is the first that claims the page
  pub frame_found : (f : Frame) → frame_of c q ≡ Some f → First (claims c q) (frames c) f.0
  unfolding frame_of
  frame_found f h = at_first (claims c q) (frames c) f h

  -- where no frame is found, none claims the page
  pub frame_none : frame_of c q ≡ None → (j : ℕ) → j < frames c → claims c q j ≡ false
  unfolding frame_of
  frame_none h j l = nothing_none (claims c q) (frames c) h j l

  -- the first that claims the page is found
  pub found_frame : (i : ℕ) → First (claims c q) (frames c) i → frame_of c q ≡ Some (record { 0 = i })
  unfolding frame_of
  found_frame i f = first_at (claims c q) (frames c) i f

  -- where none claims it, no frame is found
  pub none_frame : ((j : ℕ) → j < frames c → claims c q j ≡ false) → frame_of c q ≡ None
  unfolding frame_of
  none_frame h = none_nothing (claims c q) (frames c) h

  -- tables that agree on the claims of the page agree on its frame
  pub frame_ext : (d : List ℕ) → frames d ≡ frames c → ((j : ℕ) → j < frames c → claims d q j ≡ claims c q j)
      → frame_of d q ≡ frame_of c q
  unfolding frame_of
  frame_ext d e h = rw e (ap (λ (i : ℕ). found_in (frames c) i) (lowest_ext (claims d q) (claims c q) (frames c) h))

-- ---- after a write of entry i

module _ (c : List ℕ) (i : ℕ) (e : FrameEntry) where
  -- another entry claims what it claimed
  pub claims_other : (q : Claim) (j : ℕ) → j ≢ i → claims (put_frame_entry c i e) q j ≡ claims c q j
  unfolding claims
  claims_other q j h = ap (λ (x : FrameEntry). holds q x) (entry_other c i e j h)

  -- another entry is free where it was
  pub free_other : (j : ℕ) → j ≢ i → is_free (put_frame_entry c i e) j ≡ is_free c j
  unfolding is_free
  free_other j h = ap unused (entry_other c i e j h)

module _ (c : List ℕ) (i : ℕ) (e : FrameEntry) (r : EntryRange e) (l : entry_end i ≤ length c) where
  -- the entry claims what the one given holds
  pub claims_same : (q : Claim) → claims (put_frame_entry c i e) q i ≡ holds q e
  unfolding claims
  claims_same q = ap (λ (x : FrameEntry). holds q x) (entry_same c i e r l)

  -- a page without a frame, held by the new entry, has this frame
  pub frame_taken : (q : Claim) → frame_of c q ≡ None → i < frames c → holds q e ≡ true
      → frame_of (put_frame_entry c i e) q ≡ Some (record { 0 = i })
  frame_taken q n h t =
      found_frame (put_frame_entry c i e) q i
      (record {
        below = rw (frames_kept c i e) h;
        passes = claims_same q ∙ t;
        before = λ j m. claims_other c i e q j (omega arith) ∙ frame_none c q n j (omega arith);
      })

  -- where the old entry claims a page as the new one does, the page keeps its frame
  pub frame_same : (q : Claim) → claims c q i ≡ holds q e → frame_of (put_frame_entry c i e) q ≡ frame_of c q
  frame_same q h =
      frame_ext c q (put_frame_entry c i e) (frames_kept c i e)
      (λ j m. elim (ℕ_discrete j i) [ yes p ↦ rw p (claims_same q ∙ sym h) | no p ↦ claims_other c i e q j p ])

  -- where neither claims it, too
  pub frame_kept : (q : Claim) → claims c q i ≡ false → holds q e ≡ false → frame_of (put_frame_entry c i e) q ≡ frame_of c q
  frame_kept q h t = frame_same q (h ∙ sym t)
