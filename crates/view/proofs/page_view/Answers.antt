-- `view::page_view` meets its contract: a view lies inside its slice, and a run inside a slice is a part of it; a refused view is empty.
-- Assumes nothing.
use Rattle.std.proofs.Common.{◌≡◌, ℕ, ◌+◌, ◌-◌, ◌≤◌, length, List, sym, ap, ◌∙◌, arith, take, drop}
use Rattle.view.specs.View.{view_of, view_bytes}
use Rattle.view.proofs.page_view.Goals as goal
use Rattle.words.specs.Words.{bytes_at}
use Rattle.snapshot.specs.declared.accounts.Account.{Account}
use Rattle.pages.specs.declared.Page.{Page}
use Rattle.std.specs.Prelude.{Result, Ok}
use Rattle.refusal.specs.declared.Refusal.{Refusal}
use Rattle.view.specs.declared.View.{View}
use Rattle.view.specs.declared.View.TheVariants.{InSnapshot, InPool}
use Rattle.view.proofs.Parts.{run_part}
use Rattle.view.proofs.Shown.{view_inside}

-- a part up to a start and a length is the run
part_run : (s : List ℕ) (at n : ℕ) → at + n ≤ length s → take (at + n - at) (drop at s) ≡ bytes_at n s at
part_run s at n h = let e : at + n - at ≡ n = omega arith in rw e (sym (run_part n s at h))

module _ (s c p : List ℕ) (a : Account) (q : Page) {v : Result View Refusal} (e : v ≡ view_of s c p a q) {w : View} {at n : ℕ} where
  -- a view in the snapshot lies inside it
  in_snapshot : v ≡ Ok w → w ≡ InSnapshot at n → at + n ≤ length s
  in_snapshot f g = rw (sym e ∙ (f ∙ ap Ok g)) at (view_inside s c p a q)

  -- a view in the pool lies inside it
  in_pool : v ≡ Ok w → w ≡ InPool at n → at + n ≤ length p
  in_pool f g = rw (sym e ∙ (f ∙ ap Ok g)) at (view_inside s c p a q)

  -- the snapshot's part
  of_snapshot : v ≡ Ok w → w ≡ InSnapshot at n → take (at + n - at) (drop at s) ≡ view_bytes s p (view_of s c p a q)
  of_snapshot f g = part_run s at n (in_snapshot f g) ∙ ap (view_bytes s p) (sym (f ∙ ap Ok g) ∙ e)

  -- the pool's part
  of_pool : v ≡ Ok w → w ≡ InPool at n → take (at + n - at) (drop at p) ≡ view_bytes s p (view_of s c p a q)
  of_pool f g = part_run p at n (in_pool f g) ∙ ap (view_bytes s p) (sym (f ∙ ap Ok g) ∙ e)

pub overflow_add-result : goal.overflow_add-result
overflow_add-result c = let h = in_snapshot _ _ _ _ _ c.find_view.ensures c.in-Ok-InSnapshot.is c.in-Ok-InSnapshot.field-0-is in omega arith

pub slice_bounds-result-end : goal.slice_bounds-result-end
slice_bounds-result-end c = in_snapshot _ _ _ _ _ c.find_view.ensures c.in-Ok-InSnapshot.is c.in-Ok-InSnapshot.field-0-is

pub overflow_add-result-in-Ok-InPool : goal.overflow_add-result-in-Ok-InPool
overflow_add-result-in-Ok-InPool c = let h = in_pool _ _ _ _ _ c.find_view.ensures c.in-Ok-InPool.is c.in-Ok-InPool.field-0-is in omega arith

pub slice_bounds-result-end-in-Ok-InPool : goal.slice_bounds-result-end-in-Ok-InPool
slice_bounds-result-end-in-Ok-InPool c = in_pool _ _ _ _ _ c.find_view.ensures c.in-Ok-InPool.is c.in-Ok-InPool.field-0-is

pub returns-in-Ok-InSnapshot-clause-result_value : goal.returns-in-Ok-InSnapshot-clause-result_value
returns-in-Ok-InSnapshot-clause-result_value c = of_snapshot _ _ _ _ _ c.find_view.ensures c.in-Ok-InSnapshot.is c.in-Ok-InSnapshot.field-0-is

pub returns-in-Ok-InPool-clause-result_value : goal.returns-in-Ok-InPool-clause-result_value
returns-in-Ok-InPool-clause-result_value c = of_pool _ _ _ _ _ c.find_view.ensures c.in-Ok-InPool.is c.in-Ok-InPool.field-0-is
