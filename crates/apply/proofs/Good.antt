-- The tests of a change list, as facts by name. Assumes nothing.
use Rattle.std.proofs.Common.{ℕ, suc, ◌+◌, ◌-◌, ◌*◌, ◌^◌, ◌≤◌, ◌<◌, ◌≡◌, true, false, List, ⊎_elim, arith, length, get_or, eqb, leb-true, ltb-true, eqb-true, ne_eqb}
use borrow.Author.Tests.{eqb-false, not-true}
use Rattle.layout.specs.Page.{page_size}
use Rattle.layout.specs.List.{list_header, change_size, change_at, pages_at, list_total}
use Rattle.words.specs.Words.{word_at}
use Rattle.words.proofs.Word.{word_fits}
use Rattle.choice.specs.Search.{every}
use Rattle.choice.proofs.Every.{every_at}
use Rattle.choice.proofs.Tests.{both_true, either_true}
use Rattle.snapshot.specs.declared.accounts.Account.{Account}
use Rattle.pages.specs.Pages.{live_of}
use Rattle.pages.specs.declared.Page.{Page}
use Rattle.pages.proofs.PageBytes.{live_inside}
use Rattle.changes.specs.Keys.{key_of}
use Rattle.apply.specs.Apply.{list_count, change_account, change_page, change_live, change_zero, layout_exact, ascends, change_good, list_good}

-- ---- the layout

-- what an exact layout keeps
pub record LayoutFacts (l : List ℕ) : Type 0 where
  pub header : list_header ≤ length l
  pub entries_at : word_at 4 l 4 ≡ list_header
  pub pages_at_is : word_at 4 l 8 ≡ pages_at (list_count l)
  pub total : word_at 4 l 12 ≡ list_total (list_count l)
  pub whole : list_total (list_count l) ≤ length l

pub layout_facts : (l : List ℕ) → layout_exact l ≡ true → LayoutFacts l
unfolding layout_exact
layout_facts l e =
    let t₁ = both_true _ _ e in
    let t₂ = both_true _ _ t₁.1 in
    let t₃ = both_true _ _ t₂.1 in
    let t₄ = both_true _ _ t₃.1 in
    record {
      header = leb-true _ _ t₁.0;
      entries_at = eqb-true _ _ t₂.0;
      pages_at_is = eqb-true _ _ t₃.0;
      total = eqb-true _ _ t₄.0;
      whole = leb-true _ _ t₄.1;
    }

-- an entry of an exact layout lies in the list
pub change_inside : (l : List ℕ) (i : ℕ) → ((k : ℕ) → get_or l k 0 < 256) → layout_exact l ≡ true → i < list_count l
    → (i < 2 ^ 32) × (change_at i + change_size ≤ length l)
change_inside l i bytes e h =
    let f : LayoutFacts l = layout_facts l e in
    let n : list_count l < 2 ^ 32 = word_fits 4 l 0 bytes in
    (omega arith, omega arith)

-- ---- an entry

-- the key of entry i
abbrev pub change_key : List ℕ → ℕ → ℕ
change_key l i = key_of (change_account l i) (change_page l i)

-- the page of entry i
abbrev pub page_of : List ℕ → ℕ → Page
page_of l i = record { 0 = change_page l i }

-- what a good entry keeps, where the account's data is so long
pub record ChangeFacts (l : List ℕ) (a : Account) (size i : ℕ) : Type 0 where
  pub in_order : ascends l i ≡ true
  pub ends : change_zero l i ≡ 0
  pub some_live : 1 ≤ change_live l i
  pub few_live : change_live l i ≤ page_size
  pub its_live : change_account l i ≡ a.0 → change_live l i ≡ live_of size (page_of l i)

module _ (l : List ℕ) (a : Account) (size i : ℕ) where
  pub change_facts : change_good l a size i ≡ true → ChangeFacts l a size i
  unfolding change_good
  change_facts e =
      let t₁ = both_true _ _ e in
      let t₂ = both_true _ _ t₁.1 in
      let t₃ = both_true _ _ t₂.1 in
      let t₄ = both_true _ _ t₃.1 in
      record {
        in_order = t₁.0;
        ends = eqb-true _ _ t₂.0;
        some_live = leb-true _ _ t₃.0;
        few_live = leb-true _ _ t₄.0;
        its_live =
            λ h.
            ⊎_elim (λ x. absurd (eqb-false (change_account l i) a.0 (not-true _ x) h)) (λ x. eqb-true _ _ x)
            (either_true _ _ t₄.1);
      }

  -- the live bytes of an entry of this account lie in the data
  pub page_inside : change_good l a size i ≡ true → change_account l i ≡ a.0 → page_size * change_page l i + change_live l i ≤ size
  page_inside e h =
      let f : ChangeFacts l a size i = change_facts e in
      let q : change_live l i ≡ live_of size (page_of l i) = f.its_live h in
      omega (arith, live_inside size (page_of l i) (change_live l i - 1) (omega arith))

-- an entry in order has a higher key than the one before it
pub key_rises : (l : List ℕ) (i : ℕ) → ascends l (suc i) ≡ true → change_key l i < change_key l (suc i)
unfolding ascends
key_rises l i e =
    let z : eqb (suc i) 0 ≡ false = ne_eqb (suc i) 0 (λ q. omega arith) in
    let m : suc i - 1 ≡ i = omega arith in
    ltb-true _ _ (rw (z, m) at e)

-- ---- the list

-- the parts of a good list
pub list_facts : (l : List ℕ) (a : Account) (size : ℕ) → list_good l a size ≡ true
    → (layout_exact l ≡ true) × (every (change_good l a size) (list_count l) ≡ true)
unfolding list_good
list_facts l a size e = both_true _ _ e

-- every entry of a good list is good
pub list_change : (l : List ℕ) (a : Account) (size i : ℕ) → list_good l a size ≡ true → i < list_count l → change_good l a size i ≡ true
list_change l a size i e h = every_at (change_good l a size) (list_count l) i (list_facts l a size e).1 h
