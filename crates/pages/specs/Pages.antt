-- Document 01, "Copies" and "Change list and page view": pages and frames. Assumes nothing.
use Rattle.std.specs.Prelude.{ℕ, ◌+◌, ◌-◌, ◌*◌, ◌/◌, ◌%◌, min, Bool, List, nat_le}
use Rattle.layout.specs.Page.{page_size}
use Rattle.words.specs.Words.{bytes_at}
use Rattle.choice.specs.Choice.{both}
use Rattle.snapshot.specs.Accounts.{known, entry_of, entry_valid, data_length, original}
use Rattle.snapshot.specs.declared.accounts.Account.{Account}
use Rattle.pages.specs.declared.Page.{Page}
use Rattle.pages.specs.declared.Frame.{Frame}

-- "Anonymous page number is offset/4,096"; of account data, too
abbrev pub page_of : ℕ → Page
page_of offset = record { 0 = offset / page_size }

-- where a page starts in its data
abbrev pub page_start : Page → ℕ
page_start p = page_size * p.0

-- where a frame starts in the pool
abbrev pub frame_start : Frame → ℕ
frame_start f = page_size * f.0

-- a byte of a frame
abbrev pub in_frame : Frame → ℕ → ℕ
in_frame f offset = frame_start f + offset % page_size

-- "live bytes, min(4,096, length−4,096·page)", of data of this length
unfoldable pub live_of : ℕ → Page → ℕ
live_of size p = min page_size (size - page_start p)

-- the live bytes of an account's page
abbrev pub live : List ℕ → Account → Page → ℕ
live s a p = live_of (data_length (entry_of s a)) p

-- "copies the page's original bytes, fills the rest with zeros": a byte past the data's end reads as 0
unfoldable pub original_page : List ℕ → Account → Page → List ℕ
original_page s a p = bytes_at page_size (original s a) (page_start p)

-- a page of an account below A, with a fit entry, that has live bytes
unfoldable pub page_there : List ℕ → Account → Page → Bool
page_there s a p = both (known s a) (both (entry_valid s a) (nat_le 1 (live s a p)))
