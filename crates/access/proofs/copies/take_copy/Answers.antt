use Rattle.std.proofs.Common.{◌≡◌, ℕ, ◌+◌, ◌-◌, ◌<◌, ◌≤◌, length, List, ◌^◌, ◌∙◌, arith}
use Rattle.translate.specs.Fits.{CopyFits}
use Rattle.access.specs.Stores.{taken_pool}
use Rattle.access.proofs.copies.take_copy.Goals as goal
use Rattle.layout.specs.Page.{page_size}
use Rattle.words.specs.Words.{splice, bytes_at, zeros}
use Rattle.words.proofs.Splice.{splice-append}
use Rattle.words.proofs.Run.{length-bytes_at}
use Rattle.control.proofs.Facts.{control_facts}
use Rattle.snapshot.specs.Accounts.{entry_of, data_length}
use Rattle.snapshot.specs.declared.accounts.Account.{Account}
use Rattle.snapshot.specs.declared.accounts.AccountEntry.{AccountEntry}
use Rattle.snapshot.proofs.Facts.{snapshot_facts, entry_inside, data_inside}
use Rattle.pages.specs.Pages.{page_start, frame_start, live_of, live}
use Rattle.pages.specs.declared.Page.{Page}
use Rattle.pages.proofs.PageBytes.{live_inside, live_positive, original_page_is}
use Rattle.translate.specs.declared.place.NewCopy.{NewCopy}

-- `access::copies::take_copy` meets its contract: the page's live bytes lie in the snapshot, and with zeros behind them they are its
-- original bytes. Assumes nothing.
module _ (s c p : List ℕ) (t : NewCopy) (h : CopyFits s c p t) {e : AccountEntry} (is : e ≡ entry_of s t.account) where
  -- the account
  abbrev a : Account
  a = t.account

  -- the page
  abbrev q : Page
  q = t.page

  -- the page begins at a number that fits
  fits : e.start + page_start q < 2 ^ 64
  fits = rw is (omega (arith, data_inside s a h.snapshot h.entry (page_start q) h.page, (snapshot_facts s h.snapshot).most))

  module _ {z l : ℕ} (size : z ≡ data_length e) (taken : l ≡ live_of z q) where
    -- so many bytes are copied as the page has live
    count : l ≡ live s a q
    count = taken ∙ rw (size, is)

    -- the page's live bytes lie in the snapshot
    inside : e.start + page_start q + l ≤ length s
    inside =
        let some : 1 ≤ l = rw count (live_positive (data_length (entry_of s a)) q h.page) in
        let k : page_start q + (l - 1) < data_length (entry_of s a) = live_inside (data_length (entry_of s a)) q (l - 1) (omega (arith, count)) in
        rw is (omega (arith, data_inside s a h.snapshot h.entry (page_start q + (l - 1)) k))

    -- the live bytes, then zeros, are the original page
    copied : {at from : ℕ} {p₁ p₂ : List ℕ} → at ≡ frame_start t.frame → from ≡ page_start q → p₁ ≡ splice p at (bytes_at l s (e.start + from))
        → p₂ ≡ splice p₁ (at + l) (zeros (page_size - l)) → p₂ ≡ taken_pool s p t
    copied u v x y =
        let n : length (bytes_at (live s a q) s ((entry_of s a).start + page_start q)) ≡ live s a q = length-bytes_at _ _ _ in
        y ∙ rw (x, u, v, is, count, original_page_is s a q, splice-append, n)

pub overflow_sub-depth : goal.overflow_sub-depth
overflow_sub-depth c = omega (arith, c.invocation_count.ensures.0, (control_facts _ c.requires.control).some_live)

pub overflow_cast-depth : goal.overflow_cast-depth
overflow_cast-depth c = omega (arith, c.invocation_count.ensures.0, (control_facts _ c.requires.control).few_live)

pub whole_account_entry-e-requires : goal.whole_account_entry-e-requires
whole_account_entry-e-requires c = let h = c.requires in entry_inside _ _ h.snapshot h.account

pub overflow_add-e : goal.overflow_add-e
overflow_add-e c = omega (arith, c.page_start.ensures, fits _ _ _ _ c.requires c.whole_account_entry-e.ensures)

pub copy-requires : goal.copy-requires
copy-requires c =
    let h = c.requires in
    let i = inside _ _ _ _ h c.whole_account_entry-e.ensures c.data_length.ensures c.live_bytes-live.ensures.0 in
    omega (arith, c.page_start.ensures, c.frame_start-at.ensures.0, h.frame)

pub returns-clause-pool_after : goal.returns-clause-pool_after
returns-clause-pool_after c =
    copied _ _ _ _ c.requires c.whole_account_entry-e.ensures c.data_length.ensures c.live_bytes-live.ensures.0 c.frame_start-at.ensures.0 c.page_start.ensures
    c.copy.ensures c.clear.ensures
