-- What the tests of a view show, and that a view lies inside the slice that it is a part of. Assumes nothing.
use Rattle.std.proofs.Common.{ℕ, ◌+◌, ◌*◌, ◌-◌, ◌≤◌, ◌<◌, ◌≡◌, refl, true, List, arith, length, leb-true}
use Rattle.layout.specs.Page.{pool_length, page_size}
use Rattle.refusal.proofs.Checks.{need_then, then_pass, need_pass}
use Rattle.snapshot.specs.Header.{snapshot_valid}
use Rattle.snapshot.specs.Accounts.{entry_of, data_length, entry_valid}
use Rattle.snapshot.specs.declared.accounts.Account.{Account}
use Rattle.snapshot.proofs.Facts.{data_inside}
use Rattle.snapshot.proofs.Told.{account_facts}
use Rattle.control.specs.Control.{frames}
use Rattle.control.proofs.Facts.{BuffersFacts, buffers_facts}
use Rattle.pages.specs.Pages.{live}
use Rattle.pages.specs.declared.Page.{Page}
use Rattle.pages.proofs.PageBytes.{live_most, live_inside}
use Rattle.frames.specs.Table.{frame_of}
use Rattle.frames.specs.declared.claim.Claim.TheVariants.{Copy}
use Rattle.frames.proofs.Claims.{frame_found}
use Rattle.view.specs.View.{view_check, view_in, or_refused, view_of}
use Rattle.refusal.specs.declared.Refusal.{Refusal}
use Rattle.view.specs.declared.View.{View}
use Rattle.view.specs.declared.View.TheVariants.{InSnapshot, InPool}
use Rattle.std.specs.Prelude.{Result, Err, None, Ok, Option, Some}
use Rattle.refusal.specs.Checks.{Check}
use Rattle.pages.specs.declared.Frame.{Frame}

-- what a view that is not refused has shown
record ViewFacts (s c p : List ℕ) (a : Account) (q : Page) : Type 0 where
  snapshot : snapshot_valid s ≡ true
  pool : length p ≡ pool_length (frames c)
  entry : entry_valid s a ≡ true
  some_live : 1 ≤ live s a q

-- a view's start and length lie in its slice
abbrev pub Inside : List ℕ → List ℕ → Result View Refusal → Type 0
Inside s p (Ok (InSnapshot at n)) = at + n ≤ length s
Inside s p (Ok (InPool at n)) = at + n ≤ length p
Inside s p (Err r) = Unit {0}

module _ (s c p : List ℕ) (a : Account) (q : Page) where
  -- a check that passes
  view_facts : view_check s c p a q ≡ Ok tt → ViewFacts s c p a q
  unfolding view_check
  view_facts e =
      let t₁ = need_then _ _ _ e in
      let t₂ = then_pass _ _ t₁.1 in
      let b : BuffersFacts s c p = buffers_facts s c p t₁.0 in
      record {
        snapshot = b.snapshot;
        pool = b.pool;
        entry = (account_facts s a t₂.0).1;
        some_live = leb-true _ _ (need_pass _ _ t₂.1);
      }

  -- the page's original live bytes lie in the snapshot
  live_in_snapshot : ViewFacts s c p a q → (entry_of s a).start + page_size * q.0 + live s a q ≤ length s
  live_in_snapshot f =
      let k : page_size * q.0 + (live s a q - 1) < data_length (entry_of s a) = live_inside (data_length (entry_of s a)) q (live s a q - 1) (omega (arith, f.some_live)) in
      omega (arith, f.some_live, data_inside s a f.snapshot f.entry (page_size * q.0 + (live s a q - 1)) k)

  -- where the page is in a frame, or in none, the view lies inside
  found_inside : (x : Option Frame) → frame_of c (Copy a q) ≡ x → ViewFacts s c p a q → Inside s p (Ok (view_in (entry_of s a) q x))
  found_inside (Some f) e h =
      let l : f.0 < frames c = (frame_found c (Copy a q) f e).below in
      omega (arith, h.pool, live_most (data_length (entry_of s a)) q)
  found_inside None e h = live_in_snapshot h

  -- a refusal is no view
  checked_inside : (k : Check) (v : View) → (k ≡ Ok tt → Inside s p (Ok v)) → Inside s p (or_refused k v)
  checked_inside (Ok tt) v h = h refl
  checked_inside (Err r) v h = tt

  -- every view lies inside
  pub view_inside : Inside s p (view_of s c p a q)
  unfolding view_of
  view_inside = checked_inside (view_check s c p a q) _ (λ e. found_inside (frame_of c (Copy a q)) refl (view_facts e))
