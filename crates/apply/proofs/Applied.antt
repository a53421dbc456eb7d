-- The laws of a list that is applied to an account's data: the length stays, a page with no entry of this account keeps its bytes, and an
-- entry's live bytes stand in its page, since keys that ascend name each page once. Assumes nothing.
use Rattle.std.proofs.Common.{ℕ, zero, suc, ◌+◌, ◌*◌, ◌≤◌, ◌<◌, ◌≡◌, refl, sym, ◌∙◌, true, ◌≢◌, List, add-zero, le_refl, arith, length, get_or, eqb, eqb-true, eq-eqb}
use Rattle.std.proofs.Math.Decide.{dec_lt}
use Rattle.layout.specs.Page.{page_size}
use Rattle.layout.specs.List.{pages_at}
use Rattle.words.specs.Words.{bytes_at}
use Rattle.words.proofs.Splice.{length-splice, splice_in}
use Rattle.words.proofs.Run.{length-bytes_at, get_or-bytes_at}
use Rattle.choice.proofs.Tests.{by_test}
use Rattle.snapshot.specs.declared.accounts.Account.{Account}
use Rattle.pages.proofs.PageBytes.{elsewhere}
use Rattle.apply.specs.Apply.{list_count, change_account, change_page, change_live, list_good, apply_entry, applied}
use Rattle.apply.proofs.Good.{ChangeFacts, change_key, change_facts, page_inside, key_rises, list_change}

-- ---- one entry

-- the live bytes of entry i
abbrev live_bytes : List ℕ → ℕ → List ℕ
live_bytes l i = bytes_at (change_live l i) l (pages_at (list_count l) + page_size * i)

module _ (l : List ℕ) (a : Account) (d : List ℕ) (i : ℕ) where
  -- the length stays
  length_entry : length (apply_entry l a d i) ≡ length d
  unfolding apply_entry
  length_entry = by_test (eqb (change_account l i) a.0) (λ e. rw e (length-splice _ _ _)) (λ e. rw e)

  -- another page keeps its bytes
  entry_other : (p k : ℕ) → change_live l i ≤ page_size → (change_account l i ≡ a.0 → p ≢ change_page l i) → k < page_size
      → get_or (apply_entry l a d i) (page_size * p + k) 0 ≡ get_or d (page_size * p + k) 0
  unfolding apply_entry
  entry_other p k f h b =
      by_test (eqb (change_account l i) a.0)
      (λ e.
      let n : length (live_bytes l i) ≡ change_live l i = length-bytes_at _ _ _ in
      rw e (rw add-zero at (elsewhere d (change_page l i) 0 (live_bytes l i) (omega arith) p k (h (eqb-true _ _ e)) b)))
      (λ e. rw e)

  -- the entry's own page has its live bytes
  entry_page : (k : ℕ) → change_account l i ≡ a.0 → page_size * change_page l i + change_live l i ≤ length d → k < change_live l i
      → get_or (apply_entry l a d i) (page_size * change_page l i + k) 0 ≡ get_or l (pages_at (list_count l) + page_size * i + k) 0
  unfolding apply_entry
  entry_page k e h b =
      rw (eq-eqb _ _ e)
      (splice_in d (page_size * change_page l i) (live_bytes l i) k (rw length-bytes_at b) (rw length-bytes_at h) ∙ get_or-bytes_at _ _ _ k b)

-- ---- the first n entries

-- the length stays
pub length-applied : (l : List ℕ) (a : Account) (d : List ℕ) (n : ℕ) → length (applied l a d n) ≡ length d
unfolding applied
length-applied l a d zero = refl
length-applied l a d (suc n) = length_entry l a (applied l a d n) n ∙ length-applied l a d n

module _ (l : List ℕ) (a : Account) (d : List ℕ) (good : list_good l a (length d) ≡ true) where
  -- what entry i keeps
  facts : (i : ℕ) → i < list_count l → ChangeFacts l a (length d) i
  facts i h = change_facts l a (length d) i (list_change l a (length d) i good h)

  -- keys ascend
  keys_ascend : (j i : ℕ) → i < j → j < list_count l → change_key l i < change_key l j
  keys_ascend zero i h b = absurd (omega arith)
  keys_ascend (suc j) i h b =
      let r : change_key l j < change_key l (suc j) = key_rises l j (facts (suc j) b).in_order in
      elim (dec_lt i j) [ yes q ↦ omega (arith, keys_ascend j i q (omega arith)) | no q ↦ let z : i ≡ j = omega arith in rw z r ]

  -- two entries of this account have two pages
  pages_differ : (i j : ℕ) → i < j → j < list_count l → change_account l i ≡ a.0 → change_account l j ≡ a.0 → change_page l i ≢ change_page l j
  pages_differ i j h b e f q = omega (arith, keys_ascend j i h b)

  -- a byte of a page that no entry of this account names keeps its value
  pub applied_other : (n p k : ℕ) → n ≤ list_count l → ((i : ℕ) → i < n → change_account l i ≡ a.0 → change_page l i ≢ p) → k < page_size
      → get_or (applied l a d n) (page_size * p + k) 0 ≡ get_or d (page_size * p + k) 0
  unfolding applied
  applied_other zero p k m h b = refl
  applied_other (suc n) p k m h b =
      entry_other l a (applied l a d n) n p k (facts n (omega arith)).few_live (λ e q. h n (omega arith) e (sym q)) b
      ∙ applied_other n p k (omega arith) (λ i q. h i (omega arith)) b

  -- a live byte of entry i of this account is the list's
  page_below : (n i k : ℕ) → n ≤ list_count l → i < n → change_account l i ≡ a.0 → k < change_live l i
      → get_or (applied l a d n) (page_size * change_page l i + k) 0 ≡ get_or l (pages_at (list_count l) + page_size * i + k) 0
  unfolding applied
  page_below zero i k m h e b = absurd (omega arith)
  page_below (suc n) i k m h e b =
      elim (dec_lt i n) [
        | yes q ↦
            entry_other l a (applied l a d n) n (change_page l i) k (facts n (omega arith)).few_live (λ f. pages_differ i n q (omega arith) e f) (omega (arith, (facts i (omega arith)).few_live))
            ∙ page_below n i k (omega arith) q e b
        | no q ↦
            let z : i ≡ n = omega arith in
            rw z
            (entry_page l a (applied l a d n) n k (rw z at e) (rw length-applied (page_inside l a (length d) n (list_change l a (length d) n good (omega arith)) (rw z at e))) (rw z at b))
      ]

  -- in the whole list applied, a live byte of an entry of this account is the list's
  pub applied_page : (i k : ℕ) → i < list_count l → change_account l i ≡ a.0 → k < change_live l i
      → get_or (applied l a d (list_count l)) (page_size * change_page l i + k) 0 ≡ get_or l (pages_at (list_count l) + page_size * i + k) 0
  applied_page i k h e b = page_below (list_count l) i k (le_refl _) h e b
