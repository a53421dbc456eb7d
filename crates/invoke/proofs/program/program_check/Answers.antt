-- `invoke::program::program_check` meets its contract: an account that is refused stops the check, and whether an account that is found exists
-- decides. Assumes nothing.
use Rattle.std.proofs.Common.{◌≡◌, ℕ, Bool, List, sym, ◌∙◌, rules}
use Rattle.invoke.specs.Invoke.{program_check}
use Rattle.invoke.proofs.program.program_check.Goals as goal
use Rattle.refusal.specs.Checks.{Check, need, ◌then◌}
use Rattle.refusal.specs.declared.Refusal.{Refusal}
use Rattle.refusal.specs.declared.Refusal.TheVariants.{NoSegment}
use Rattle.refusal.proofs.Checks.{need_last, need_refused}
use Rattle.snapshot.specs.Accounts.{exists}
use Rattle.snapshot.specs.Lookup.{look_up}
use Rattle.snapshot.specs.declared.accounts.Account.{Account}
use Rattle.snapshot.specs.declared.accounts.AccountEntry.{AccountEntry}
use Rattle.snapshot.proofs.Told.{LookupFacts, account_passes, found_facts, refused_stopped}
use Rattle.std.specs.Prelude.{Err, Ok, Result}

module _ (s : List ℕ) (a : Account) {x : Result AccountEntry Refusal} (looked : x ≡ look_up s a) where
  -- an entry is found: whether the account exists is left
  decides : {e : AccountEntry} {b : Bool} → x ≡ Ok e → b ≡ exists e → program_check s a ≡ need b NoSegment
  unfolding program_check ◌then◌
  decides {e} f g =
      let t : LookupFacts s a e = found_facts s a (sym looked ∙ f) in
      rw (account_passes s a t.known t.valid, g, t.entry)

  -- none is: the refusal is the check's
  stops : {r : Refusal} (y : Check) → x ≡ Err r → y ≡ Err r → y ≡ program_check s a
  unfolding program_check ◌then◌
  stops y f g = rw (refused_stopped s a (sym looked ∙ f)) g

pub returns-then-exists : goal.returns-then-exists
returns-then-exists c =
    sym (decides _ _ c.look_up.ensures c.in_ok-entry.was c.exists.ensures ∙ need_last _ _ c.if-exists.true)

pub returns-else-exists : goal.returns-else-exists
returns-else-exists c =
    sym (decides _ _ c.look_up.ensures c.in_ok-entry.was c.exists.ensures ∙ need_refused _ _ c.if-exists.false)

pub returns-in_err-entry : goal.returns-in_err-entry
returns-in_err-entry c = stops _ _ c.look_up.ensures c.from_residual.result c.in_err-entry.was (search rules)
