-- Shrinking a region. The frames of the pages that go are found before any is freed: their entries become zeros, and all else is as it was.
-- Assumes nothing.
use Rattle.std.proofs.Common.{ℕ, zero, suc, ◌+◌, ◌-◌, ◌≤◌, ◌<◌, ◌≡◌, refl, sym, ap, ◌∙◌, Bool, true, ◌⊎◌, inl, inr, ⊎_elim, List, arith, length}
use Rattle.std.proofs.Math.Decide.{ℕ_discrete}
use Rattle.choice.proofs.Tests.{fails}
use Rattle.choice.proofs.Every.{every_at}
use Rattle.snapshot.specs.declared.accounts.Account.{Account}
use Rattle.control.specs.Control.{control_valid}
use Rattle.control.specs.declared.shadow.Region.{Region}
use Rattle.pages.specs.declared.Frame.{Frame}
use Rattle.pages.specs.declared.Page.{Page}
use Rattle.frames.specs.Table.{entry_end, frame_entry_of, zero_entry, holds, claims}
use Rattle.frames.specs.declared.table.FrameEntry.{FrameEntry}
use Rattle.frames.specs.declared.claim.Claim.TheVariants.{Copy}
use Rattle.frames.proofs.Entries.{entry_other, entry_same, zero_range}
use Rattle.frames.proofs.OnlyTable.{OnlyTable, table_same, table_put, table_then}
use Rattle.frames.proofs.Claims.{claims-holds, claims_copy, claims_page, frame_found}
use Rattle.regions.specs.Resize.{page_at, page_frame, may_leave, all_leave, free_found, shrunk}
use Rattle.regions.proofs.Pages.{usage_no_copy, entry_inside, claims_ext}
use Rattle.std.specs.Prelude.{None, Option, Some}

-- ---- what is found

-- frame i is found
abbrev pub FoundAt : Option Frame → ℕ → Type 0
FoundAt o i = o ≡ Some (record { 0 = i })

-- what is found is frame i, or it is not
found_or : (o : Option Frame) (i : ℕ) → FoundAt o i ⊎ (FoundAt o i → ⊥)
found_or (Some f) i =
    elim (ℕ_discrete f.0 i) [
      | yes e ↦ inl (ap (λ (x : ℕ). Some (record { 0 = x })) e)
      | no d ↦ inr (λ e. d (let y : f ≡ record { 0 = i } = cc in ap (λ (x : Frame). x.0) y))
    ]
found_or None i = inr (λ e. let z : ◌≡◌ {A = ℕ} 0 1 = cc in absurd (omega arith))

-- ---- one frame freed

module _ (d : List ℕ) where
  -- nothing but the frame table changes
  freed_only : (o : Option Frame) → OnlyTable d (free_found d o)
  freed_only (Some f) = table_put d f.0 zero_entry
  freed_only None = table_same d

  module _ (i : ℕ) where
    -- another entry is as it was
    freed_other : (o : Option Frame) → (FoundAt o i → ⊥) → frame_entry_of (free_found d o) i ≡ frame_entry_of d i
    freed_other (Some f) h = entry_other d f.0 zero_entry i (λ e. h (ap (λ (x : ℕ). Some (record { 0 = x })) (sym e)))
    freed_other None h = refl

    module _ (l : entry_end i ≤ length d) where
      -- its own is zeros
      freed_zero : (o : Option Frame) → FoundAt o i → frame_entry_of (free_found d o) i ≡ zero_entry
      freed_zero o e = rw e (entry_same d i zero_entry zero_range l)

      -- an entry of zeros stays so
      freed_stays : (o : Option Frame) → frame_entry_of d i ≡ zero_entry → frame_entry_of (free_found d o) i ≡ zero_entry
      freed_stays o z = ⊎_elim (λ e. freed_zero o e) (λ h. freed_other o h ∙ z) (found_or o i)

-- ---- n pages, from the k-th on

-- the test of the j-th page: its frame may be freed
abbrev pub may : List ℕ → Region → ℕ → ℕ → Bool
may c r k j = may_leave c (page_frame c r (k + j))

-- frame i is that of one of the pages
pub record Among (c : List ℕ) (r : Region) (k n i : ℕ) : Type 0 where
  pub at : ℕ
  pub below : at < n
  pub found : FoundAt (page_frame c r (k + at)) i

module _ (c : List ℕ) (r : Region) (k : ℕ) where
  -- where none of the pages up to the m-th has a tag below the depth, page j of those has not
  pub leave_between : (m j : ℕ) → k ≤ j → j < m → all_leave c r k (m - k) ≡ true → may_leave c (page_frame c r j) ≡ true
  unfolding all_leave
  leave_between m j l b h =
      let place : k + (j - k) ≡ j = omega arith in
      rw place at (every_at (may c r k) (m - k) (j - k) h (omega arith))

  -- nothing but the frame table changes
  pub shrunk_only : (n : ℕ) → OnlyTable c (shrunk c r k n)
  unfolding shrunk
  shrunk_only zero = table_same c
  shrunk_only (suc n) = table_then (shrunk_only n) (freed_only (shrunk c r k n) (page_frame c r (k + n)))

  -- a frame is that of one of the pages, or of none
  pub among_or : (n i : ℕ) → Among c r k n i ⊎ ((j : ℕ) → j < n → FoundAt (page_frame c r (k + j)) i → ⊥)
  among_or zero i = inr (λ j l e. omega arith)
  among_or (suc n) i =
      ⊎_elim (λ e. inl (record { at = n; below = omega arith; found = e }))
      (λ d.
      ⊎_elim (λ a. inl (record { at = a.at; below = omega arith; found = a.found }))
      (λ h. inr (λ j l e. elim (ℕ_discrete j n) [ yes z ↦ d (rw z at e) | no z ↦ h j (omega arith) e ]))
      (among_or n i))
      (found_or (page_frame c r (k + n)) i)

  -- the entry of a frame of none of them is as it was
  pub shrunk_kept : (n i : ℕ) → ((j : ℕ) → j < n → FoundAt (page_frame c r (k + j)) i → ⊥)
      → frame_entry_of (shrunk c r k n) i ≡ frame_entry_of c i
  unfolding shrunk
  shrunk_kept zero i h = refl
  shrunk_kept (suc n) i h =
      freed_other (shrunk c r k n) i (page_frame c r (k + n)) (h n (omega arith)) ∙ shrunk_kept n i (λ j l. h j (omega arith))

  module _ (ok : control_valid c ≡ true) where
    -- a frame found has its entry in the table
    inside : (n i j : ℕ) → FoundAt (page_frame c r j) i → entry_end i ≤ length (shrunk c r k n)
    inside n i j e = rw (shrunk_only n).size (entry_inside c i ok (frame_found c _ (record { 0 = i }) e).below)

    -- the entry of a frame of one of them is zeros
    pub shrunk_freed : (n i : ℕ) → Among c r k n i → frame_entry_of (shrunk c r k n) i ≡ zero_entry
    unfolding shrunk
    shrunk_freed zero i a = absurd (omega (arith, a.below))
    shrunk_freed (suc n) i a =
        let l : entry_end i ≤ length (shrunk c r k n) = inside n i (k + a.at) a.found in
        elim (ℕ_discrete a.at n) [
          | yes e ↦ freed_zero (shrunk c r k n) i l (page_frame c r (k + n)) (rw e at a.found)
          | no d ↦
              freed_stays (shrunk c r k n) i l (page_frame c r (k + n))
              (shrunk_freed n i (record { at = a.at; below = omega (arith, a.below); found = a.found }))
        ]

    module _ (n : ℕ) (a : Account) (p : Page) (i : ℕ) where
      -- no copy is a frame of the pages
      copy_apart : Among c r k n i → claims c (Copy a p) i ≡ true → ⊥
      copy_apart m e =
          usage_no_copy r
          (sym (claims_page c i r (page_at r (k + m.at)) (frame_found c _ (record { 0 = i }) m.found).passes).usage
          ∙ (claims_copy c i a p e).usage)

      -- so its entry is as it was
      pub shrunk_copy : claims c (Copy a p) i ≡ true → frame_entry_of (shrunk c r k n) i ≡ frame_entry_of c i
      shrunk_copy e = ⊎_elim (λ m. absurd (copy_apart m e)) (shrunk_kept n i) (among_or n i)

    -- the claim of each copy is as it was
    pub shrunk_copies : (n : ℕ) (a : Account) (p : Page) (i : ℕ) → claims (shrunk c r k n) (Copy a p) i ≡ claims c (Copy a p) i
    shrunk_copies n a p i =
        ⊎_elim
        (λ m.
        claims-holds (shrunk c r k n) i (Copy a p)
        ∙ ap (λ (x : FrameEntry). holds (Copy a p) x) (shrunk_freed n i m)
        ∙ sym (fails (claims c (Copy a p) i) (copy_apart n a p i m)))
        (λ h. claims_ext c (shrunk c r k n) (Copy a p) i (shrunk_kept n i h))
        (among_or n i)
