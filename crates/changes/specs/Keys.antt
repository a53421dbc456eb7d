-- Document 01, "Change list and page view": the pages that copies claim, in ascending order. Assumes nothing.
use Rattle.std.specs.Prelude.{ℕ, ◌+◌, ◌*◌, ◌/◌, ◌%◌, Bool, List}
use Rattle.choice.specs.Search.{picked}
use Rattle.snapshot.specs.declared.accounts.Account.{Account}
use Rattle.pages.specs.declared.Page.{Page}
use Rattle.frames.specs.Table.{frame_of, is_found}
use Rattle.frames.specs.declared.claim.Claim.{Claim}
use Rattle.frames.specs.declared.claim.Claim.TheVariants.{Copy}

-- account and page as one number, in whose order (account, page) ascends
abbrev pub key_of : ℕ → ℕ → ℕ
key_of a p = 65536 * a + p

-- the account of a key
abbrev pub key_account : ℕ → Account
key_account k = record { 0 = k / 65536 }

-- the page of a key
abbrev pub key_page : ℕ → Page
key_page k = record { 0 = k % 65536 }

-- the claim of a key
abbrev pub key_claim : ℕ → Claim
key_claim k = Copy (key_account k) (key_page k)

-- a copy claims the page of a key
unfoldable pub is_copied : List ℕ → ℕ → Bool
is_copied c k = is_found (frame_of c (key_claim k))

-- keys lie below this: an account and a page are u16
abbrev pub key_limit : ℕ
key_limit = 65536 * 65536

-- "entries in ascending (account, page)": the keys of the pages that copies claim
unfoldable pub copy_keys : List ℕ → List ℕ
copy_keys c = picked (is_copied c) 0 key_limit
