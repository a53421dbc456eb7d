use Rattle.std.proofs.Common.{◌≡◌, ℕ, false, List, sym, ◌∙◌, leb}
use Rattle.pages.specs.Pages.{live_of, page_there}
use Rattle.pages.proofs.page_there.Goals as goal
use Rattle.choice.proofs.Tests.{by_test}
use Rattle.refusal.specs.declared.Refusal.{Refusal}
use Rattle.refusal.proofs.Checks.{stop≢pass}
use Rattle.snapshot.specs.Accounts.{known, entry_valid, data_length}
use Rattle.snapshot.specs.Lookup.{look_up}
use Rattle.snapshot.specs.declared.accounts.Account.{Account}
use Rattle.snapshot.specs.declared.accounts.AccountEntry.{AccountEntry}
use Rattle.snapshot.proofs.Told.{LookupFacts, account_passes, found_facts, refused_stopped}
use Rattle.pages.specs.declared.Page.{Page}
use Rattle.std.specs.Prelude.{Err, Ok, Result}

-- `pages::page_there` meets its contract: what the look_up finds decides the first two tests, and the live bytes the third. Assumes nothing.
module _ (s : List ℕ) (a : Account) (p : Page) {x : Result AccountEntry Refusal} (looked : x ≡ look_up s a) where
  -- an entry is found: the live bytes decide
  there : {e : AccountEntry} {n m : ℕ} → x ≡ Ok e → n ≡ data_length e → m ≡ live_of n p → leb 1 m ≡ page_there s a p
  unfolding page_there
  there {e} f g h =
      let t : LookupFacts s a e = found_facts s a (sym looked ∙ f) in
      rw (t.known, t.valid, h, g, t.entry)

  -- none is: the page is not there
  not_there : {r : Refusal} → x ≡ Err r → false ≡ page_there s a p
  unfolding page_there
  not_there {r} f =
      let stop = refused_stopped s a (sym looked ∙ f) in
      by_test (known s a)
      (λ k.
      by_test (entry_valid s a) (λ v. absurd (stop≢pass (sym stop ∙ account_passes s a k v))) (λ v. rw (k, v)))
      (λ k. rw k)

pub returns-in-Ok : goal.returns-in-Ok
returns-in-Ok c =
    there _ _ _ c.look_up.ensures c.in-Ok.is c.data_length.ensures c.live_bytes.ensures.0

pub returns-in-Err : goal.returns-in-Err
returns-in-Err c = not_there _ _ _ c.look_up.ensures c.in-Err.is
