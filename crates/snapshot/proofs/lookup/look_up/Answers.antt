use Rattle.std.proofs.Common.{◌≡◌, true, ℕ, ◌<◌, ◌≤◌, Bool, false, List, sym, ap, ◌∙◌, lt-ltb, le-ltb}
use Rattle.snapshot.specs.Lookup.{look_up}
use Rattle.snapshot.proofs.lookup.look_up.Goals as goal
use Rattle.refusal.specs.declared.Refusal.TheVariants.{Invalid, NoSegment}
use Rattle.snapshot.specs.Header.{header_of}
use Rattle.snapshot.specs.Accounts.{known, entry_of, valid_within, entry_valid}
use Rattle.snapshot.specs.declared.header.Header.{Header}
use Rattle.snapshot.specs.declared.accounts.Account.{Account}
use Rattle.snapshot.specs.declared.accounts.AccountEntry.{AccountEntry}
use Rattle.snapshot.proofs.Facts.{snapshot_facts, entry_inside}
use Rattle.snapshot.proofs.Told.{account_passes, account_unknown, account_invalid, passed_found, stopped_refused}
use Rattle.std.specs.Prelude.{Err, Ok}

-- `snapshot::lookup::look_up` meets its contract: each early return is a test of `account_check` that fails, the tests before it passed.
-- Assumes nothing.
module _ (s : List ℕ) (a : Account) {h : Header} (e : h ≡ header_of s) where
  -- the account is not below the count
  unknown : h.accounts ≤ a.0 → Err NoSegment ≡ look_up s a
  unknown l = sym (stopped_refused s a (account_unknown s a (le-ltb _ _ (rw e at l))))

  -- it is below
  below : a.0 < h.accounts → known s a ≡ true
  below l = lt-ltb _ _ (rw e at l)

  module _ (l : a.0 < h.accounts) {n : AccountEntry} {v : Bool} (f : n ≡ entry_of s a) (g : v ≡ valid_within h.data_at h.total n) where
    -- the test of the entry
    fit : entry_valid s a ≡ v
    unfolding entry_valid
    fit = rw (← e, ← f) (sym g)

    -- the entry is not valid
    unfit : v ≡ false → Err Invalid ≡ look_up s a
    unfit t = sym (stopped_refused s a (account_invalid s a (below l) (fit ∙ t)))

    -- every test passes
    found : v ≡ true → Ok n ≡ look_up s a
    found t = ap (λ (x : AccountEntry). Ok x) f ∙ sym (passed_found s a (account_passes s a (below l) (fit ∙ t)))

pub whole_header-h-requires : goal.whole_header-h-requires
whole_header-h-requires c = (snapshot_facts _ c.requires).header

pub whole_account_entry-e-requires : goal.whole_account_entry-e-requires
whole_account_entry-e-requires c =
    entry_inside _ _ c.requires (below _ _ c.whole_header-h.ensures (rw c.from.ensures at c.if-from-h.true))

pub returns-then-valid : goal.returns-then-valid
returns-then-valid c =
    found _ _ c.whole_header-h.ensures (rw c.from.ensures at c.if-from-h.true) c.whole_account_entry-e.ensures c.valid.ensures
    c.if-valid.true

pub returns-then-from-h : goal.returns-then-from-h
returns-then-from-h c =
    unfit _ _ c.whole_header-h.ensures (rw c.from.ensures at c.if-from-h.true) c.whole_account_entry-e.ensures c.valid.ensures
    c.if-valid.false

pub returns : goal.returns
returns c = unknown _ _ c.whole_header-h.ensures (rw c.from.ensures at c.if-from-h.false)
