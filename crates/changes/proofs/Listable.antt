-- The two forms of the test that every copy can be listed: the definition's, entry by entry, and the code's, which looks for pages
-- claimed twice among the ascending codes. Assumes nothing.
use Rattle.std.proofs.Common.{ℕ, ◌≤◌, ◌<◌, ◌≡◌, Bool, true, false, not, List, arith, get_or, eqb-true, eq-eqb}
use borrow.Author.Tests.{not-true, not-false}
use Rattle.layout.specs.Control.{frame_limit}
use Rattle.choice.specs.Search.{every}
use Rattle.choice.proofs.Every.{every_at, every_all}
use Rattle.choice.proofs.Tests.{by_test, differ, both_true, fails}
use Rattle.pages.specs.Pages.{page_there}
use Rattle.frames.specs.Table.{frame_entry_of, claims, is_copy}
use Rattle.frames.specs.declared.claim.Claim.TheVariants.{Copy}
use Rattle.frames.proofs.Entries.{EntryRange, entry_range}
use Rattle.frames.proofs.Claims.{claims_copy, copy_claims}
use Rattle.changes.specs.List.{claimed_before, copy_listable, listable}
use Rattle.changes.specs.Copies.{codes_below, key_twice, entry_listable}
use Rattle.changes.proofs.Apart.{Apart, once_apart, apart_once}

-- entry j's page can be listed, but for a claim before it
abbrev fit : List ℕ → List ℕ → ℕ → Bool
fit s c j = page_there s (frame_entry_of c j).account (frame_entry_of c j).page

-- entry i claims the page of entry j
abbrev claims_too : List ℕ → ℕ → ℕ → Bool
claims_too c j i = claims c (Copy (frame_entry_of c j).account (frame_entry_of c j).page) i

-- what the definition's test says of a copy
listed : (s c : List ℕ) (j : ℕ) → is_copy c j ≡ true → listable s c j ≡ true → (fit s c j ≡ true) × (not (claimed_before c j) ≡ true)
unfolding listable copy_listable
listed s c j q t = both_true (fit s c j) (not (claimed_before c j)) (rw q at t)

module _ (s c : List ℕ) (bytes : (k : ℕ) → get_or c k 0 < 256) (n : ℕ) (few : n ≤ frame_limit) where
  -- where every entry can be listed, no two copies are of one page
  listable_apart : every (listable s c) n ≡ true → Apart c n
  unfolding claimed_before
  listable_apart h i j l m p q e =
      let a : EntryRange (frame_entry_of c i) = entry_range c bytes i in
      let b : EntryRange (frame_entry_of c j) = entry_range c bytes j in
      let t : every (λ i. not (claims_too c j i)) j ≡ true =
      not-false _ (not-true _ (listed s c j q (every_at (listable s c) n j h m)).1) in
      differ (claims_too c j i)
      (copy_claims c i (frame_entry_of c j).account (frame_entry_of c j).page
      (record { usage = eqb-true _ _ p; account = omega (arith, a.page, b.page); page = omega (arith, a.page, b.page) }))
      (not-true (claims_too c j i) (every_at (λ i. not (claims_too c j i)) j i t l))

  -- where no two copies are of one page, none is claimed before
  apart_before : Apart c n → (j : ℕ) → j < n → is_copy c j ≡ true → claimed_before c j ≡ false
  unfolding claimed_before
  apart_before h j m q =
      rw (every_all (λ i. not (claims_too c j i)) j
      (λ i l.
      rw (fails (claims_too c j i)
      (λ t.
      let f = claims_copy c i (frame_entry_of c j).account (frame_entry_of c j).page t in
      h i j l m (eq-eqb _ _ f.usage) q (omega (arith, f.account, f.page))))))

  -- the code's test passes: every entry can be listed
  pub listable_all : every (entry_listable s c) n ≡ true → key_twice (codes_below c n) ≡ false → every (listable s c) n ≡ true
  unfolding entry_listable listable copy_listable
  listable_all h d =
      every_all (listable s c) n
      (λ j m.
      by_test (is_copy c j)
      (λ q.
      let t : fit s c j ≡ true = rw q at (every_at (entry_listable s c) n j h m) in
      rw (q, t, apart_before (once_apart c bytes n few d) j m q))
      (λ q. rw q))

  -- where every entry can be listed, the code's test of each passes
  listable_entries : every (listable s c) n ≡ true → every (entry_listable s c) n ≡ true
  unfolding entry_listable
  listable_entries h =
      every_all (entry_listable s c) n
      (λ j m.
      by_test (is_copy c j) (λ q. rw (q, (listed s c j q (every_at (listable s c) n j h m)).0)) (λ q. rw q))

  -- the code's test of the entries fails: not every entry can be listed
  pub unlistable_entry : every (entry_listable s c) n ≡ false → every (listable s c) n ≡ false
  unlistable_entry h = fails (every (listable s c) n) (λ t. differ _ (listable_entries t) h)

  -- a page is claimed twice: not every entry can be listed
  pub unlistable_twice : key_twice (codes_below c n) ≡ true → every (listable s c) n ≡ false
  unlistable_twice h = fails (every (listable s c) n) (λ t. differ _ h (apart_once c bytes n few (listable_apart t)))
