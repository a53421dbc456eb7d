-- A page with no live byte has no view. It stands here so that `view_in`'s proof cites no name with the literal of its test. Assumes nothing.
use Rattle.std.proofs.Common.{◌≡◌, ◌<◌, ℕ, List}
use borrow.Author.Tests.{lt-leb}
use Rattle.refusal.specs.Checks.{need}
use Rattle.refusal.specs.declared.Refusal.TheVariants.{Absent}
use Rattle.snapshot.specs.Accounts.{data_length}
use Rattle.snapshot.specs.declared.accounts.Account.{Account}
use Rattle.snapshot.specs.declared.accounts.AccountEntry.{AccountEntry}
use Rattle.pages.specs.Pages.{live_of}
use Rattle.pages.specs.declared.Page.{Page}
use Rattle.view.specs.View.{view_of_entry}
use Rattle.std.specs.Prelude.{Err}

-- no live byte
pub no_live : (c : List ℕ) (a : Account) (q : Page) (e : AccountEntry) → live_of (data_length e) q < 1 → view_of_entry c a q e ≡ Err (Absent 0)
unfolding view_of_entry need
no_live c a q e l = rw (lt-leb _ _ l)
