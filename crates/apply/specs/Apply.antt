-- Document 01, "Change list and page view", with document 02, "Eight": applying a list to an account's data. Assumes nothing.
use Rattle.std.specs.Prelude.{ℕ, zero, suc, ◌+◌, ◌-◌, ◌*◌, Bool, not, List, length, nat_lt, nat_le, nat_eq}
use Rattle.layout.specs.List.{list_header, pages_at, list_total}
use Rattle.layout.specs.Page.{page_size}
use Rattle.words.specs.Words.{word_at, bytes_at, splice}
use Rattle.choice.specs.Search.{every}
use Rattle.choice.specs.Choice.{pick, both, either}
use Rattle.refusal.specs.Checks.{need, check_number, or_keep}
use Rattle.refusal.specs.declared.Refusal.TheVariants.{BadList}
use Rattle.snapshot.specs.declared.accounts.Account.{Account}
use Rattle.pages.specs.Pages.{live_of}
use Rattle.changes.specs.Entry.{change_in}
use Rattle.changes.specs.Keys.{key_of}

-- n of a list
abbrev pub list_count : List ℕ → ℕ
list_count l = word_at 4 l 0

-- entry i's account
abbrev pub change_account : List ℕ → ℕ → ℕ
change_account l i = (change_in l i).account.0

-- entry i's page
abbrev pub change_page : List ℕ → ℕ → ℕ
change_page l i = (change_in l i).page.0

-- entry i's live count
abbrev pub change_live : List ℕ → ℕ → ℕ
change_live l i = (change_in l i).live

-- entry i's last u16
abbrev pub change_zero : List ℕ → ℕ → ℕ
change_zero l i = (change_in l i).zero

-- "exactly that layout (it may be longer than its total ..)"
unfoldable pub layout_exact : List ℕ → Bool
layout_exact l =
    both (nat_le list_header (length l))
    (both (nat_eq (word_at 4 l 4) list_header)
    (both (nat_eq (word_at 4 l 8) (pages_at (list_count l)))
    (both (nat_eq (word_at 4 l 12) (list_total (list_count l))) (nat_le (list_total (list_count l)) (length l)))))

-- "entries strictly ascending": the entry before i, if there is one, has a lower (account, page)
unfoldable pub ascends : List ℕ → ℕ → Bool
ascends l i =
    either (nat_eq i 0)
    (nat_lt (key_of (change_account l (i - 1)) (change_page l (i - 1))) (key_of (change_account l i) (change_page l i)))

-- "every live count 1..4,096, and each entry of this account has the live count that this data length gives"; "Applying refuses an entry whose
-- last u16 isn't zero"
unfoldable pub change_good : List ℕ → Account → ℕ → ℕ → Bool
change_good l a size i =
    both (ascends l i)
    (both (nat_eq (change_zero l i) 0)
    (both (nat_le 1 (change_live l i))
    (both (nat_le (change_live l i) page_size)
    (either (not (nat_eq (change_account l i) a.0)) (nat_eq (change_live l i) (live_of size (record { 0 = change_page l i })))))))

-- "12 unless the list has exactly that layout .., entries strictly ascending, .."
unfoldable pub list_good : List ℕ → Account → ℕ → Bool
list_good l a size = both (layout_exact l) (every (change_good l a size) (list_count l))

-- "Its live bytes replace the page.": entry i, where it is this account's
unfoldable pub apply_entry : List ℕ → Account → List ℕ → ℕ → List ℕ
apply_entry l a d i =
    pick (nat_eq (change_account l i) a.0)
    (splice d (page_size * change_page l i) (bytes_at (change_live l i) l (pages_at (list_count l) + page_size * i)))
    d

-- the first n entries applied
unfoldable pub applied : List ℕ → Account → List ℕ → ℕ → List ℕ
applied l a d zero = d
applied l a d (suc n) = apply_entry l a (applied l a d n) n

-- apply's number
unfoldable pub apply_number : List ℕ → Account → List ℕ → ℕ
apply_number l a d = check_number (need (list_good l a (length d)) BadList)

-- the data after it
unfoldable pub apply_data : List ℕ → Account → List ℕ → List ℕ
apply_data l a d = or_keep (need (list_good l a (length d)) BadList) d (applied l a d (list_count l))
