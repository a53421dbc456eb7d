-- Document 01, "Change list and page view", with document 02, "Eight": the change list. Assumes nothing.
use Rattle.std.specs.Prelude.{ℕ, Bool, not, List, [], ◌∷◌, ◌++◌, length, nat_le, None, Option, Some}
use Rattle.layout.specs.List.{list_header, pages_at, list_total}
use Rattle.layout.specs.Page.{page_size}
use Rattle.words.specs.Words.{word_bytes, bytes_at, splice}
use Rattle.choice.specs.Search.{every}
use Rattle.choice.specs.Choice.{both, either}
use Rattle.refusal.specs.Checks.{need, ◌then◌, check_number, or_keep, Check}
use Rattle.refusal.specs.declared.Refusal.TheVariants.{Invalid, ShortOutput}
use Rattle.control.specs.Control.{frames, buffers_valid}
use Rattle.pages.specs.Pages.{frame_start, live, page_there}
use Rattle.frames.specs.Table.{frame_entry_of, claims, frame_of, is_copy}
use Rattle.frames.specs.declared.claim.Claim.TheVariants.{Copy}
use Rattle.changes.specs.Entry.{change_bytes, change_of}
use Rattle.changes.specs.Keys.{key_account, key_page, key_claim, copy_keys}
use Rattle.changes.specs.declared.entry.Change.{Change}
use Rattle.pages.specs.declared.Frame.{Frame}

-- "Header of four u32: count n, 16," where the pages begin, total
unfoldable pub list_header_bytes : ℕ → List ℕ
list_header_bytes n = word_bytes 4 n ++ (word_bytes 4 list_header ++ (word_bytes 4 (pages_at n) ++ word_bytes 4 (list_total n)))

-- pieces, one for each of a list, one after the other
unfoldable pub joined : (ℕ → List ℕ) → List ℕ → List ℕ
joined f [] = []
joined f (k ∷ ks) = f k ++ joined f ks

-- a page of the list: n live bytes "and then zeros"
unfoldable pub padded : ℕ → List ℕ → List ℕ
padded n bytes = bytes_at page_size (bytes_at n bytes 0) 0

-- the whole list of these keys, each with the entry and the page that `entry` and `page` give: header, entries, pages
unfoldable pub list_bytes : (ℕ → Change) → (ℕ → List ℕ) → List ℕ → List ℕ
list_bytes entry page ks = list_header_bytes (length ks) ++ (joined (λ k. change_bytes (entry k)) ks ++ joined page ks)

-- the frame's bytes, from its start on
abbrev pub frame_bytes : List ℕ → Option Frame → List ℕ
frame_bytes p (Some f) = bytes_at page_size p (frame_start f)
frame_bytes p None = []

-- "each the frame's live bytes and then zeros"
unfoldable pub page_bytes : List ℕ → List ℕ → List ℕ → ℕ → List ℕ
page_bytes s c p k = padded (live s (key_account k) (key_page k)) (frame_bytes p (frame_of c (key_claim k)))

-- the depth that a frame's entry holds
abbrev pub frame_depth : List ℕ → Option Frame → ℕ
frame_depth c (Some f) = (frame_entry_of c f.0).depth
frame_depth c None = 0

-- "then that u16": the depth that the entry of the page's copy holds
unfoldable pub copy_depth : List ℕ → ℕ → ℕ
copy_depth c k = frame_depth c (frame_of c (key_claim k))

-- the change list
unfoldable pub change_list : List ℕ → List ℕ → List ℕ → List ℕ
change_list s c p = list_bytes (change_of s (copy_depth c)) (page_bytes s c p) (copy_keys c)

-- ---- the call

-- the page of copy i is "claimed before": by an entry of a lower number
unfoldable pub claimed_before : List ℕ → ℕ → Bool
claimed_before c i = not (every (λ j. not (claims c (Copy (frame_entry_of c i).account (frame_entry_of c i).page) j)) i)

-- "1 if a copy claims an account not below A, an unfit one, a page with no live bytes, or a page claimed before"
unfoldable pub copy_listable : List ℕ → List ℕ → ℕ → Bool
copy_listable s c i =
    both (page_there s (frame_entry_of c i).account (frame_entry_of c i).page) (not (claimed_before c i))

-- an entry that is no copy, or a copy that can be listed
unfoldable pub listable : List ℕ → List ℕ → ℕ → Bool
listable s c i = either (not (is_copy c i)) (copy_listable s c i)

-- "Order: 1 for headers; 1 if a copy claims ..; 11"
unfoldable pub list_check : List ℕ → List ℕ → List ℕ → ℕ → Check
list_check s c p room =
    need (buffers_valid s c p) Invalid
    then need (every (listable s c) (frames c)) Invalid
    then need (nat_le (list_total (length (copy_keys c))) room) ShortOutput

-- the change list's number
unfoldable pub change_list_number : List ℕ → List ℕ → List ℕ → List ℕ → ℕ
change_list_number s c p out = check_number (list_check s c p (length out))

-- the lent buffer after it: "Bytes past the total stay."
unfoldable pub change_list_out : List ℕ → List ℕ → List ℕ → List ℕ → List ℕ
change_list_out s c p out = or_keep (list_check s c p (length out)) out (splice out 0 (change_list s c p))
