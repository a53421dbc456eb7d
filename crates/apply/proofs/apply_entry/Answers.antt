-- `apply::apply_entry` meets its contract: the live bytes of an entry of this account lie in the list and in the data, and are put in;
-- another account's entry changes nothing. Assumes nothing.
use Rattle.std.proofs.Common.{◌≡◌, true, ◌+◌, ◌≤◌, ◌<◌, length, ℕ, ◌*◌, List, ◌∙◌, arith, eqb, eqb-true, eq-eqb, false, sym}
use Rattle.apply.specs.Apply.{list_count, change_account, layout_exact, change_good, apply_entry}
use Rattle.apply.proofs.apply_entry.Goals as goal
use Rattle.layout.specs.Page.{page_size}
use Rattle.layout.specs.List.{pages_at}
use Rattle.words.specs.Words.{bytes_at, splice}
use Rattle.snapshot.specs.declared.accounts.Account.{Account}
use Rattle.pages.specs.Pages.{page_start}
use Rattle.changes.specs.Entry.{change_in}
use Rattle.changes.specs.declared.entry.Change.{Change}
use Rattle.apply.proofs.Good.{layout_facts, change_facts, change_inside, page_inside}

module _ (l : List ℕ) (a : Account) (i : ℕ) {r : Change} (read : r ≡ change_in l i) where
  -- another account's
  another : (d : List ℕ) → eqb r.account.0 a.0 ≡ false → d ≡ apply_entry l a d i
  unfolding apply_entry
  another d n = rw (rw read at n)

  module _ (f : r.account.0 ≡ a.0) {n at from : ℕ} (g : n ≡ list_count l) (h : at ≡ page_start r.page) (k : from ≡ pages_at n) where
    -- it is this account's
    own : change_account l i ≡ a.0
    own = rw read at f

    -- the live bytes lie in the list and in the data
    fits : (size : ℕ) → layout_exact l ≡ true → i < list_count l → change_good l a size i ≡ true
        → (r.live ≤ page_size) × (at + r.live ≤ size) × (from + page_size * i + r.live ≤ length l)
    fits size w b q =
        let s = layout_facts l w in
        let t = change_facts l a size i q in
        let u = page_inside l a size i q own in
        rw (h, k, g, read) (omega arith, omega arith, omega arith)

    -- they are put in
    put_in : (d : List ℕ) {d' : List ℕ} → d' ≡ splice d at (bytes_at r.live l (from + page_size * i)) → d' ≡ apply_entry l a d i
    unfolding apply_entry
    put_in d m = m ∙ rw (h, k, g, read, eq-eqb _ _ own)

pub read-e-requires : goal.read-e-requires
read-e-requires c =
    change_inside _ _ (λ k. (c.type_inv.l k).fits) c.requires.l_value.0 c.requires.l_value.1

pub u32_at-n-requires : goal.u32_at-n-requires
u32_at-n-requires c = let f = layout_facts _ c.requires.l_value.0 in omega arith

pub copy-requires : goal.copy-requires
copy-requires c =
    fits _ _ _ c.read-e.ensures (eqb-true _ _ (sym c.eq.ensures ∙ c.if-eq.true)) c.u32_at-n.ensures.0 c.page_start.ensures c.pages_at.ensures _
    c.requires.l_value.0 c.requires.l_value.1 c.requires.i_value

pub returns-then-eq : goal.returns-then-eq
returns-then-eq c =
    put_in _ _ _ c.read-e.ensures (eqb-true _ _ (sym c.eq.ensures ∙ c.if-eq.true)) c.u32_at-n.ensures.0 c.page_start.ensures c.pages_at.ensures _ c.copy.ensures

pub returns-else-eq : goal.returns-else-eq
returns-else-eq c = another _ _ _ c.read-e.ensures _ (sym c.eq.ensures ∙ c.if-eq.false)
