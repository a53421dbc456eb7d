-- `changes::list::write_change` meets its contract: the entry is that of the code's key, and the frame's live bytes with the zeros behind
-- them are the page. Assumes nothing.
use Rattle.std.proofs.Common.{◌≡◌, ℕ, ◌+◌, ◌*◌, ◌/◌, ◌≤◌, ◌<◌, ◌-◌, ◌^◌, List, ◌++◌, ◌∙◌, arith, ltb-true}
use Rattle.layout.specs.Page.{page_size}
use Rattle.layout.specs.List.{pages_at, change_at}
use Rattle.words.specs.Words.{splice, bytes_at, zeros}
use Rattle.changes.specs.Copies.{code_entry, code_page, ChangeFits, code_key, code_frame, copied_of}
use Rattle.changes.specs.declared.copies.Copied.{Copied}
use Rattle.changes.proofs.list.write_change.Goals as goal
use Rattle.words.proofs.Splice.{splice-append}
use Rattle.words.proofs.Run.{length-bytes_at}
use Rattle.snapshot.specs.Accounts.{entry_of, data_length}
use Rattle.snapshot.specs.declared.accounts.AccountEntry.{AccountEntry}
use Rattle.snapshot.proofs.Facts.{snapshot_facts, entry_inside}
use Rattle.snapshot.specs.Header.{accounts}
use Rattle.pages.specs.Pages.{live_of, live, frame_start}
use Rattle.pages.proofs.PageBytes.{live_most}
use Rattle.changes.specs.Keys.{key_account, key_page}
use Rattle.changes.specs.Entry.{change_bytes}
use Rattle.changes.proofs.Written.{padded_is}

-- a code that fits is one of a copy
small : (s p : List ℕ) (x : ℕ) → ChangeFits s p x → x < 2 ^ 58
small s p x h = omega (arith, ltb-true (code_key x / 65536) (accounts s) h.account, (snapshot_facts s h.snapshot).few_accounts)

module _ (s p : List ℕ) (x : ℕ) {r : Copied} (er : r ≡ copied_of x) {e : AccountEntry} {z l : ℕ} (ee : e ≡ entry_of s r.account) (ez : z ≡ data_length e) (el : l ≡ live_of z r.page) where
  -- so many bytes are copied as the page has live
  count : l ≡ live s (key_account (code_key x)) (key_page (code_key x))
  count = el ∙ rw (ez, ee, er)

  -- the live bytes, then zeros, are the page
  page : (o : List ℕ) (at : ℕ) → splice (splice o at (bytes_at l p (page_size * code_frame x))) (at + l) (zeros (page_size - l)) ≡ splice o at (code_page s p x)
  page o at =
      let m : l ≤ page_size = rw count (live_most _ _) in
      let q : code_page s p x ≡ bytes_at l p (page_size * code_frame x) ++ zeros (page_size - l) = rw (← count) (padded_is l p (page_size * code_frame x) m) in
      rw (q, splice-append, length-bytes_at l p (page_size * code_frame x))

  -- the three writes
  written : (out : List ℕ) (j n : ℕ) {o₁ o₂ o₃ : List ℕ} {at f : ℕ} → at ≡ pages_at n → f ≡ frame_start r.frame
      → o₁ ≡ splice out (change_at j) (change_bytes (record { account = r.account; page = r.page; live = l; depth = r.depth; zero = 0 }))
      → o₂ ≡ splice o₁ (at + page_size * j) (bytes_at l p f) → o₃ ≡ splice o₂ (at + page_size * j + l) (zeros (page_size - l))
      → o₃ ≡ splice (splice out (change_at j) (code_entry s x)) (pages_at n + page_size * j) (code_page s p x)
  written out j n ea ef e₁ e₂ e₃ = e₃ ∙ rw (e₂, ef, ea, er, page _ (pages_at n + page_size * j), e₁, er, count)

pub from_code-copied-requires : goal.from_code-copied-requires
from_code-copied-requires c = small _ _ _ c.requires.change_fits

pub whole_account_entry-entry-requires : goal.whole_account_entry-entry-requires
whole_account_entry-entry-requires c =
    let h = c.requires.change_fits in
    rw c.from_code-copied.ensures (entry_inside _ _ h.snapshot h.account)

pub returns : goal.returns
returns c =
    written _ _ _ c.from_code-copied.ensures c.whole_account_entry-entry.ensures c.data_length.ensures c.live_bytes-live.ensures.0 _ _ _ c.pages_at.ensures
    c.frame_start.ensures.0 c.put.ensures c.copy.ensures c.clear.ensures
