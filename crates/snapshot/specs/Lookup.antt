-- Document 01, "Begin, call, return, resize" and "Change list and page view": an account looked up by its number. Assumes nothing.
use Rattle.std.specs.Prelude.{ℕ, List, Err, Ok, Result}
use Rattle.refusal.specs.Checks.{need, ◌then◌, Check}
use Rattle.refusal.specs.declared.Refusal.TheVariants.{Invalid, NoSegment}
use Rattle.snapshot.specs.Accounts.{known, entry_of, entry_valid}
use Rattle.snapshot.specs.declared.accounts.Account.{Account}
use Rattle.snapshot.specs.declared.accounts.AccountEntry.{AccountEntry}
use Rattle.refusal.specs.declared.Refusal.{Refusal}

-- "4 (not below A), 1 (entry unfit)"; "4 account, 1 entry"
unfoldable pub account_check : List ℕ → Account → Check
account_check s a = need (known s a) NoSegment then need (entry_valid s a) Invalid

-- the entry where the check passes, else its refusal
abbrev pub found_by : Check → AccountEntry → Result AccountEntry Refusal
found_by (Ok tt) e = Ok e
found_by (Err r) e = Err r

-- an account's valid entry, or the first refusal
unfoldable pub look_up : List ℕ → Account → Result AccountEntry Refusal
look_up s a = found_by (account_check s a) (entry_of s a)
