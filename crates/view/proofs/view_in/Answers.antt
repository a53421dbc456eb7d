-- `view::view_in` meets its contract: with no live byte the last test fails; with one, the page is where the search of the frame table
-- says. Assumes nothing.
use Rattle.std.proofs.Common.{◌≡◌, ℕ, ◌+◌, ◌≤◌, List, sym, ◌∙◌, arith, le-leb}
use Rattle.view.specs.View.{view_of_entry}
use Rattle.view.proofs.view_in.Goals as goal
use Rattle.refusal.specs.Checks.{need}
use Rattle.snapshot.specs.Accounts.{data_length}
use Rattle.snapshot.specs.declared.accounts.Account.{Account}
use Rattle.snapshot.specs.declared.accounts.AccountEntry.{AccountEntry}
use Rattle.pages.specs.Pages.{page_start, frame_start, live_of}
use Rattle.pages.specs.declared.Page.{Page}
use Rattle.pages.specs.declared.Frame.{Frame}
use Rattle.frames.specs.Table.{frame_of}
use Rattle.frames.specs.declared.claim.Claim.TheVariants.{Copy}
use Rattle.view.specs.declared.View.TheVariants.{InSnapshot, InPool}
use Rattle.std.specs.Prelude.{Ok, None, Option, Some}

module _ (c : List ℕ) (a : Account) (q : Page) (e : AccountEntry) {n m : ℕ} (size : n ≡ data_length e) (live : m ≡ live_of n q) where
  -- so many bytes are live
  count : live_of (data_length e) q ≡ m
  count = sym (live ∙ rw size)

  module _ (some : 1 ≤ m) {x : Option Frame} (searched : x ≡ frame_of c (Copy a q)) where
    -- the page has a copy
    in_pool : {f : Frame} {at : ℕ} → x ≡ Some f → at ≡ frame_start f → Ok (InPool at m) ≡ view_of_entry c a q e
    unfolding view_of_entry need
    in_pool w v = rw (count, le-leb _ _ some, ← searched, w, v) (rw count)

    -- it has none
    in_snapshot : {at : ℕ} → x ≡ None → at ≡ page_start q → Ok (InSnapshot (e.start + at) m) ≡ view_of_entry c a q e
    unfolding view_of_entry need
    in_snapshot w v = rw (count, le-leb _ _ some, ← searched, w, v) (rw count)

pub returns-in-Some : goal.returns-in-Some
returns-in-Some c =
    in_pool _ _ _ _ c.data_length.ensures c.live_bytes-live.ensures.0 (omega arith) c.frame_of.ensures
    c.in-Some.is c.frame_start.ensures.0

pub returns-in-None : goal.returns-in-None
returns-in-None c =
    in_snapshot _ _ _ _ c.data_length.ensures c.live_bytes-live.ensures.0 (omega arith) c.frame_of.ensures
    c.in-None.is c.page_start.ensures
