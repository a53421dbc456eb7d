-- Document 01, "Change list and page view", with document 02, "One": the page view. Assumes nothing.
use Rattle.std.specs.Prelude.{ℕ, ◌+◌, List, [], nat_le, Result, Err, None, Ok, Option, Some}
use Rattle.words.specs.Words.{bytes_at}
use Rattle.refusal.specs.Numbers.{number_of, done}
use Rattle.refusal.specs.Checks.{need, ◌then◌, Check}
use Rattle.refusal.specs.declared.Refusal.{Refusal}
use Rattle.refusal.specs.declared.Refusal.TheVariants.{Invalid, Absent}
use Rattle.snapshot.specs.Accounts.{entry_of, data_length}
use Rattle.snapshot.specs.Lookup.{account_check}
use Rattle.snapshot.specs.declared.accounts.AccountEntry.{AccountEntry}
use Rattle.snapshot.specs.declared.accounts.Account.{Account}
use Rattle.control.specs.Control.{buffers_valid}
use Rattle.pages.specs.Pages.{page_start, frame_start, live_of, live}
use Rattle.pages.specs.declared.Page.{Page}
use Rattle.frames.specs.Table.{frame_of}
use Rattle.frames.specs.declared.claim.Claim.TheVariants.{Copy}
use Rattle.view.specs.declared.View.{View}
use Rattle.view.specs.declared.View.TheVariants.{InSnapshot, InPool}
use Rattle.pages.specs.declared.Frame.{Frame}

-- "1 headers, 4 account, 1 entry, 3 no live bytes", the last of which is 13: the page's first byte is absent
unfoldable pub view_check : List ℕ → List ℕ → List ℕ → Account → Page → Check
view_check s c p a q =
    need (buffers_valid s c p) Invalid
    then account_check s a
    then need (nat_le 1 (live s a q)) (Absent 0)

-- "the live bytes of an account page as a part of the ground or of the pool"
abbrev pub view_in : AccountEntry → Page → Option Frame → View
view_in e q (Some f) = InPool (frame_start f) (live_of (data_length e) q)
view_in e q None = InSnapshot (e.start + page_start q) (live_of (data_length e) q)

-- a view, or a refusal
abbrev pub or_refused : Check → View → Result View Refusal
or_refused (Ok tt) v = Ok v
or_refused (Err r) v = Err r

-- the last test and the view, of an account's entry: the inner function's
unfoldable pub view_of_entry : List ℕ → Account → Page → AccountEntry → Result View Refusal
view_of_entry c a q e = or_refused (need (nat_le 1 (live_of (data_length e) q)) (Absent 0)) (view_in e q (frame_of c (Copy a q)))

-- the page view
unfoldable pub view_of : List ℕ → List ℕ → List ℕ → Account → Page → Result View Refusal
view_of s c p a q = or_refused (view_check s c p a q) (view_in (entry_of s a) q (frame_of c (Copy a q)))

-- "Its number is asked for separately"
abbrev pub view_number : Result View Refusal → ℕ
view_number (Ok v) = done
view_number (Err r) = number_of r

-- where the part starts, by the places where the two buffers start: so many bytes into the one that holds the page. A refused view starts
-- with the snapshot
abbrev pub view_start : (snapshot pool : ℕ × ℕ) → Result View Refusal → ℕ × ℕ
view_start s p (Ok (InSnapshot at n)) = (s.0, at + s.1)
view_start s p (Ok (InPool at n)) = (p.0, at + p.1)
view_start s p (Err r) = s

-- the bytes of each case; "a view is empty" where refused
abbrev pub view_bytes : List ℕ → List ℕ → Result View Refusal → List ℕ
view_bytes s p (Ok (InSnapshot at n)) = bytes_at n s at
view_bytes s p (Ok (InPool at n)) = bytes_at n p at
view_bytes s p (Err r) = []
