-- The table's rule: one test over the whole table, which computes to true, and what it tells of the row that is found; then what
-- the table permits. Assumes nothing.
use Rattle.std.proofs.Common.{ℕ, zero, suc, ◌≤◌, ◌<◌, ◌≡◌, refl, sym, ap, ◌∙◌, Bool, true, false, not, Option, Some, None, List, [], ◌∷◌, ⊎_elim, arith, eqb, ltb-true, lt-ltb, le-ltb, eqb-true, eq-eqb, ne_eqb}
use mathlib.Core.List.{Memᴰ}
use Rattle.std.proofs.Math.Decide.{dec_lt}
use borrow.Author.Tests.{not-true}
use Rattle.layout.specs.Control.{older}
use Rattle.choice.specs.Choice.{pick, both, either}
use Rattle.choice.proofs.Tests.{by_test, differ, both_true, either_true}
use Rattle.segments.specs.Kinds.{kind_fetch, kind_store, kind_store_span, is_store}
use Rattle.segments.specs.Rules.{row, rules, index_matches, row_of, edition_matches, in_edition, segment_of, fetchable, storable, permitted}
use Rattle.segments.specs.declared.rules.IndexRule.{IndexRule}
use Rattle.segments.specs.declared.rules.IndexRule.TheVariants.{Exactly, AnyAccount}
use Rattle.segments.specs.declared.rules.Editions.TheVariants.{Both, Newer}
use Rattle.segments.specs.declared.rules.Presence.{Presence}
use Rattle.segments.specs.declared.rules.Presence.TheVariants.{Transaction, Shadow, Program, Context, Metadata, Data, Stack, Heap}
use Rattle.segments.specs.declared.rules.FetchRule.{FetchRule}
use Rattle.segments.specs.declared.rules.FetchRule.TheVariants.{Nowhere, Everywhere, Running}
use Rattle.segments.specs.declared.rules.StoreRule.{StoreRule}
use Rattle.segments.specs.declared.rules.StoreRule.TheVariants.{Never, Owner, Tag}
use Rattle.segments.specs.declared.rules.Row.{Row}
use Rattle.segments.proofs.Rows.{row_found}

-- ---- the test

-- a number for each presence
abbrev number : Presence → ℕ
number Transaction = 0
number Shadow = 1
number Program = 2
number Context = 3
number Metadata = 4
number Data = 5
number Stack = 6
number Heap = 7

-- the same presence
abbrev same : Presence → Presence → Bool
same p q = eqb (number p) (number q)

-- a number for each store rule
abbrev rank : StoreRule → ℕ
rank Never = 0
rank Owner = 1
rank Tag = 2

-- a number for each fetch rule
abbrev grade : FetchRule → ℕ
grade Nowhere = 0
grade Everywhere = 1
grade Running = 2

-- the index rule takes the accounts
abbrev any_account : IndexRule → Bool
any_account (Exactly k) = false
any_account AnyAccount = true

-- the store rule that goes with a presence
abbrev pub store_of : Presence → StoreRule
store_of p = pick (same p Data) Owner (pick (either (same p Stack) (same p Heap)) Tag Never)

-- the fetch rule that goes with a presence
abbrev pub fetch_of : Presence → FetchRule
fetch_of p = pick (same p Program) Everywhere (pick (same p Data) Running Nowhere)

-- a row of metadata or of account data is for the accounts
abbrev for_accounts : Row → Bool
for_accounts r = either (not (either (same r.presence Metadata) (same r.presence Data))) (any_account r.index)

-- a row has the store rule that goes with its presence
abbrev right_store : Row → Bool
right_store r = eqb (rank r.store) (rank (store_of r.presence))

-- a row has the fetch rule that goes with its presence
abbrev right_fetch : Row → Bool
right_fetch r = eqb (grade r.fetch) (grade (fetch_of r.presence))

-- what holds of every row
abbrev lawful : Row → Bool
lawful r = both (for_accounts r) (both (right_store r) (right_fetch r))

-- no row has the presence
fresh : Presence → List Row → Bool
fresh p [] = true
fresh p (r ∷ rs) = both (not (same p r.presence)) (fresh p rs)

-- every row is lawful, and no two have the same presence
table : List Row → Bool
table [] = true
table (r ∷ rs) = both (lawful r) (both (fresh r.presence rs) (table rs))

-- the table passes
rules_pass : table rules ≡ true
unfolding table fresh rules
rules_pass = refl

-- ---- what the test tells of rows of a list

-- what passes of a list: its first row, that no other has the first's presence, its rest
record Passed (r : Row) (rs : List Row) : Type 0 where
  first : lawful r ≡ true
  other : fresh r.presence rs ≡ true
  rest : table rs ≡ true

passed : (r : Row) (rs : List Row) → table (r ∷ rs) ≡ true → Passed r rs
unfolding table
passed r rs e =
    let b = both_true (lawful r) (both (fresh r.presence rs) (table rs)) e in
    let t = both_true (fresh r.presence rs) (table rs) b.1 in
    record { first = b.0; other = t.0; rest = t.1 }

-- each row is lawful
each_lawful : (rs : List Row) → table rs ≡ true → (r : Row) → Memᴰ r rs → lawful r ≡ true
each_lawful [] e r m = elim m [ ]
each_lawful (s ∷ rs) e r (Memᴰ.head q) = rw q (passed s rs e).first
each_lawful (s ∷ rs) e r (Memᴰ.tail m) = each_lawful rs (passed s rs e).rest r m

-- a row of the list does not have a presence that none has
none_has : (p : Presence) (rs : List Row) → fresh p rs ≡ true → (r : Row) → Memᴰ r rs → p ≡ r.presence → ⊥
unfolding fresh
none_has p [] e r m h = elim m [ ]
none_has p (s ∷ rs) e r (Memᴰ.head q) h =
    let b = (both_true (not (same p s.presence)) (fresh p rs) e).0 in
    differ (same p s.presence) (eq-eqb (number p) (number s.presence) (cc)) (not-true (same p s.presence) b)
none_has p (s ∷ rs) e r (Memᴰ.tail m) h =
    none_has p rs (both_true (not (same p s.presence)) (fresh p rs) e).1 r m h

-- two rows of the same presence are one
one : (rs : List Row) → table rs ≡ true → (r s : Row) → Memᴰ r rs → Memᴰ s rs → r.presence ≡ s.presence → r ≡ s
one [] e r s m k h = elim m [ ]
one (x ∷ rs) e r s (Memᴰ.head p) (Memᴰ.head q) h = p ∙ sym q
one (x ∷ rs) e r s (Memᴰ.head p) (Memᴰ.tail m) h =
    absurd (none_has x.presence rs (passed x rs e).other s m (cc))
one (x ∷ rs) e r s (Memᴰ.tail m) (Memᴰ.head q) h =
    absurd (none_has x.presence rs (passed x rs e).other r m (cc))
one (x ∷ rs) e r s (Memᴰ.tail m) (Memᴰ.tail k) h = one rs (passed x rs e).rest r s m k h

-- the store rule with a number
ruled : ℕ → StoreRule
ruled zero = Never
ruled (suc zero) = Owner
ruled (suc (suc n)) = Tag

ruled_rank : (s : StoreRule) → ruled (rank s) ≡ s
unfolding ruled
ruled_rank Never = refl
ruled_rank Owner = refl
ruled_rank Tag = refl

-- the fetch rule with a number
graded : ℕ → FetchRule
graded zero = Nowhere
graded (suc zero) = Everywhere
graded (suc (suc n)) = Running

graded_grade : (f : FetchRule) → graded (grade f) ≡ f
unfolding graded
graded_grade Nowhere = refl
graded_grade Everywhere = refl
graded_grade Running = refl

-- ---- the row of account data

-- it, in both editions
abbrev pub data_row : Row
data_row = row 3 AnyAccount Both Data Running Owner

module _ (i n : ℕ) where
  -- it is that of type 3 and an account's index
  pub data_row_lem : i < n → row_of rules 3 i n ≡ Some data_row
  unfolding row_of rules
  data_row_lem h = rw (lt-ltb i n h)

  -- type 3 has no other
  pub data_none : n ≤ i → row_of rules 3 i n ≡ None
  unfolding row_of rules
  data_none h = rw (le-ltb i n h)

  -- a row of type 3 is of account data
  pub type_data : (r : Row) → row_of rules 3 i n ≡ Some r → r.presence ≡ Data
  type_data r e =
      elim (dec_lt i n) [
        | yes h ↦ let q : r ≡ data_row = cc (data_row_lem h) in ap (λ (x : Row). x.presence) q
        | no h ↦ let z : ◌≡◌ {A = ℕ} 0 1 = cc (data_none (omega arith)) in absurd (omega arith)
      ]

-- ---- the row of the program

-- it, in the newer edition alone
abbrev pub program_row : Row
program_row = row 0 (Exactly 3) Newer Program Everywhere Never

-- it is that of 0/3
pub program-row : (n : ℕ) → row_of rules 0 3 n ≡ Some program_row
unfolding row_of rules
program-row n = refl

-- ---- the row that is found

known : (x : IndexRule) (i n : ℕ) → any_account x ≡ true → index_matches x i n ≡ true → i < n
known (Exactly k) i n e h = absurd (differ false e refl)
known AnyAccount i n e h = ltb-true i n h

module _ (t i n : ℕ) (r : Row) (found : row_of rules t i n ≡ Some r) where
  member : Memᴰ r rules
  member = (row_found t i n rules r found).1

  matches : (eqb r.segment t ≡ true) × (index_matches r.index i n ≡ true)
  matches = both_true (eqb r.segment t) (index_matches r.index i n) (row_found t i n rules r found).0

  laws : (for_accounts r ≡ true) × (right_store r ≡ true) × (right_fetch r ≡ true)
  laws =
      let b = both_true (for_accounts r) _ (each_lawful rules rules_pass r member) in
      let w = both_true (right_store r) (right_fetch r) b.1 in
      (b.0, w.0, w.1)

  -- it has the type asked for
  pub found_type : r.segment ≡ t
  found_type = eqb-true r.segment t matches.0

  -- its store rule is the one that goes with its presence
  pub store_of_is : r.store ≡ store_of r.presence
  store_of_is =
      sym (ruled_rank r.store)
      ∙ ap ruled (eqb-true (rank r.store) (rank (store_of r.presence)) laws.1)
      ∙ ruled_rank (store_of r.presence)

  -- and so is its fetch rule
  pub fetch_of_lem : r.fetch ≡ fetch_of r.presence
  fetch_of_lem =
      sym (graded_grade r.fetch)
      ∙ ap graded (eqb-true (grade r.fetch) (grade (fetch_of r.presence)) laws.2)
      ∙ graded_grade (fetch_of r.presence)

  -- the index of account data is an account
  pub data_known : r.presence ≡ Data → i < n
  data_known e = known r.index i n (rw e at laws.0) matches.1

  -- that of metadata too
  pub metadata_known : r.presence ≡ Metadata → i < n
  metadata_known e = known r.index i n (rw e at laws.0) matches.1

  -- a row of account data is the one of type 3
  pub data_is : r.presence ≡ Data → r ≡ data_row
  data_is e =
      let d = (row_found 3 0 1 rules data_row (data_row_lem 0 1 (omega arith))).1 in
      one rules rules_pass r data_row member d e

  -- so the type asked for is 3
  pub data_type : r.presence ≡ Data → t ≡ 3
  data_type e = sym found_type ∙ ap (λ (x : Row). x.segment) (data_is e)

  -- a row of the program is the one of 0/3
  pub program_is : r.presence ≡ Program → r ≡ program_row
  program_is e =
      let d = (row_found 0 3 0 rules program_row (program-row 0)).1 in
      one rules rules_pass r program_row member d e

  -- so these are the type and the index asked for
  pub program_pair : r.presence ≡ Program → (t ≡ 0) × (i ≡ 3)
  program_pair e =
      let q : r ≡ program_row = program_is e in
      (sym found_type ∙ ap (λ (x : Row). x.segment) q, eqb-true i 3 (rw q at matches.1))

  -- the transaction, the shadow stack, the program, the block contexts and the metadata are never stored to: for each, p is its
  -- presence, and `refl` the second argument
  pub plain_never : (p : Presence) → store_of p ≡ Never → r.presence ≡ p → r.store ≡ Never
  plain_never p h e = (rw e at store_of_is) ∙ h

-- ---- the row in an edition

-- a segment is the row that was found, and the edition has it
in_found : (v : ℕ) (x : Option Row) (r : Row) → in_edition v x ≡ Some r → (x ≡ Some r) × (edition_matches r.editions v ≡ true)
in_found v None r e = let z : ◌≡◌ {A = ℕ} 0 1 = cc in absurd (omega arith)
in_found v (Some q) r e =
    by_test (edition_matches q.editions v)
    (λ h. let k : Some q ≡ Some r = rw h at e in let same : q ≡ r = cc in (k, rw same at h))
    (λ h. let k : None ≡ Some r = rw h at e in let z : ◌≡◌ {A = ℕ} 0 1 = cc in absurd (omega arith))

module _ (v t i n : ℕ) where
  -- so it is the row of the pair
  pub segment_found : (r : Row) → segment_of v t i n ≡ Some r → (row_of rules t i n ≡ Some r) × (edition_matches r.editions v ≡ true)
  unfolding segment_of
  segment_found r e = in_found v (row_of rules t i n) r e

  -- and back
  pub segment_is : (r : Row) → row_of rules t i n ≡ Some r → edition_matches r.editions v ≡ true → segment_of v t i n ≡ Some r
  unfolding segment_of
  segment_is r found has = rw (found, has)

  -- where the pair has no row there is none
  pub segment_none : row_of rules t i n ≡ None → segment_of v t i n ≡ None
  unfolding segment_of
  segment_none none = rw none

-- the older edition has none of 0/3: "index 3 of type 0 is reserved"
pub older_none : (n : ℕ) → segment_of older 0 3 n ≡ None
unfolding segment_of
older_none n = rw (program-row n)

-- ---- what is permitted

module _ (kind : ℕ) (fetch : FetchRule) (store : StoreRule) (running owned : Bool) where
  -- a fetch, by the fetch rule
  pub permitted_fetch : kind ≡ kind_fetch → permitted kind fetch store running owned ≡ fetchable fetch running
  unfolding permitted
  permitted_fetch e = rw e (by_test (fetchable fetch running) (λ h. rw h) (λ h. rw h))

  -- a store, by the store rule
  pub permitted_store : is_store kind ≡ true → permitted kind fetch store running owned ≡ storable store owned
  unfolding permitted
  permitted_store e =
      ⊎_elim (λ h. rw (eqb-true kind kind_store h)) (λ h. rw (eqb-true kind kind_store_span h))
      (either_true (eqb kind kind_store) (eqb kind kind_store_span) e)

  -- a load, everywhere
  pub permitted_load : (kind ≡ kind_fetch → ⊥) → is_store kind ≡ false → permitted kind fetch store running owned ≡ true
  unfolding permitted
  permitted_load h e = rw (ne_eqb kind kind_fetch h, e)
