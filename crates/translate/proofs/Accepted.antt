-- What an answer of translation says of the tests before it: those before presence, where no refusal of theirs is the answer; all of
-- them, where no test gives it, and that it is the place of the row. With it what that means in account data. Assumes nothing.
use Rattle.std.proofs.Common.{ℕ, ◌+◌, ◌-◌, ◌%◌, ◌≤◌, ◌<◌, ◌≡◌, refl, sym, ap, ◌∙◌, Bool, true, false, Option, Some, None, List, arith, eqb, leb, ltb-true, leb-true, lt-ltb, le-leb}
use Rattle.layout.specs.Page.{page_size}
use Rattle.layout.specs.Address.{addresses}
use Rattle.choice.proofs.Tests.{differ}
use Rattle.refusal.specs.Numbers.{number_of}
use Rattle.refusal.specs.Checks.{need, ◌then◌, Check}
use Rattle.refusal.specs.declared.Refusal.{Refusal}
use Rattle.refusal.specs.declared.Refusal.TheVariants.{Invalid, BadRequest, BadAddress, Absent, NoSegment, Misaligned, Crossing, NotPermitted, NoFrame}
use Rattle.address.specs.Address.{type_of, index_of, offset_of}
use Rattle.snapshot.specs.Header.{accounts}
use Rattle.snapshot.specs.Accounts.{entry_of, entry_valid, data_length}
use Rattle.snapshot.specs.declared.accounts.Account.{Account}
use Rattle.control.specs.Control.{edition, buffers_valid}
use Rattle.segments.specs.Kinds.{request_valid, aligned, within}
use Rattle.segments.specs.Rules.{rules, row_of, edition_matches, segment_of, permitted}
use Rattle.segments.specs.declared.rules.FetchRule.{FetchRule}
use Rattle.segments.specs.declared.rules.Presence.{Presence}
use Rattle.segments.specs.declared.rules.Presence.TheVariants.{Transaction, Shadow, Program, Context, Metadata, Data, Stack, Heap}
use Rattle.segments.specs.declared.rules.Row.{Row}
use Rattle.segments.specs.declared.rules.StoreRule.{StoreRule}
use Rattle.segments.proofs.Requests.{request_length, within-length}
use Rattle.segments.proofs.Table.{type_data, data_known, metadata_known, segment_found, segment_is}
use Rattle.translate.specs.Place.{refusing, Translation}
use Rattle.translate.specs.Checks.{first_checks, row_checks}
use Rattle.translate.specs.Translate.{concerned_valid, owned, running, end_of, row_check, start_of, source_of, data_place, place_in, place_of, in_row, in_segment, translate_of, Named}
use Rattle.translate.specs.declared.request.Request.{Request}
use Rattle.std.specs.Prelude.{Err, Ok}

-- the request that an access makes
abbrev pub request_of : ℕ → ℕ → ℕ → Request
request_of kind a n = record { kind = kind; index = index_of a; offset = offset_of a; length = n }

-- the account that an address names
abbrev pub account_of : ℕ → Account
account_of a = record { 0 = index_of a }

-- the row that was found names an account, where its index is one
pub named : (s : List ℕ) (t : ℕ) (q : Request) (r : Row) → row_of rules t q.index (accounts s) ≡ Some r
    → (p : Presence) → r.presence ≡ p → Named s p q
named s t q r f Transaction e = tt
named s t q r f Shadow e = tt
named s t q r f Program e = tt
named s t q r f Context e = tt
named s t q r f Metadata e = lt-ltb _ _ (metadata_known t q.index (accounts s) r f e)
named s t q r f Data e = lt-ltb _ _ (data_known t q.index (accounts s) r f e)
named s t q r f Stack e = tt
named s t q r f Heap e = tt

-- ---- one test

-- no test gives this answer: it is a place, or "last 8"
abbrev pub last : Translation → Bool
last (Ok q) = true
last (Err r) = eqb (number_of r) (number_of NoFrame)

-- a chain refuses by its first part, or else by the rest
refusing_then : (d e : Check) (t : Translation) → refusing (d then e) t ≡ refusing d (refusing e t)
unfolding ◌then◌
refusing_then (Ok tt) e t = refl
refusing_then (Err r) e t = refl

-- a test of answers that no refusal before presence passes
pub record Apart (f : Translation → Bool) : Type 0 where
  pub invalid : f (Err Invalid) ≡ false
  pub request : f (Err BadRequest) ≡ false
  pub address : f (Err BadAddress) ≡ false
  pub segment : f (Err NoSegment) ≡ false
  pub alignment : f (Err Misaligned) ≡ false
  pub permission : f (Err NotPermitted) ≡ false
  pub crossing : f (Err Crossing) ≡ false

-- where the answer passes one that a test's refusal does not pass, the test did
peel : (f : Translation → Bool) (t : Translation) → f t ≡ true → (b : Bool) (r : Refusal) (y : Translation) → f (Err r) ≡ false
    → refusing (need b r) y ≡ t → (b ≡ true) × (y ≡ t)
unfolding need
peel f t l true r y h e = (refl, e)
peel f t l false r y h e = absurd (differ (f t) l (ap f (sym e) ∙ h))

-- ---- the tests before presence

-- what those of a row ask
pub record RowTested (s c : List ℕ) (p : Presence) (fetch : FetchRule) (store : StoreRule) (q : Request) : Type 0 where
  pub entry : concerned_valid s c p q ≡ true
  pub aligned : aligned q.kind q.offset q.length ≡ true
  pub permitted : permitted q.kind fetch store (running c p q) (owned s c p q) ≡ true
  pub within : q.offset % page_size + q.length ≤ page_size

-- the test of presence, then the place
abbrev pub present_place : List ℕ → List ℕ → Presence → Request → Translation
present_place s c p q = refusing (need (leb (q.offset + q.length) (end_of s c p q)) (Absent (end_of s c p q - q.offset))) (place_of s c p q)

-- an answer that passes such a test comes after them
pub row-tested : (s c : List ℕ) (p : Presence) (fetch : FetchRule) (store : StoreRule) (q : Request) (f : Translation → Bool) → Apart f → (t : Translation) → f t ≡ true
    → in_row s c p fetch store q ≡ t → RowTested s c p fetch store q × (present_place s c p q ≡ t)
unfolding in_row row_check row_checks
row-tested s c p fetch store q f x t l e =
    let h₁ = peel f t l _ Invalid _ x.invalid (simp refusing_then at e) in
    let h₂ = peel f t l _ Misaligned _ x.alignment h₁.1 in
    let h₃ = peel f t l _ NotPermitted _ x.permission h₂.1 in
    let h₄ = peel f t l _ Crossing _ x.crossing h₃.1 in
    (record { entry = h₁.0; aligned = h₂.0; permitted = h₃.0; within = within-length q.offset q.length h₄.0 }, h₄.1)

-- what the tests before a row say, and that the row gives the answer
pub record InRow (s c p : List ℕ) (kind a n : ℕ) (t : Translation) : Type 0 where
  pub buffers : buffers_valid s c p ≡ true
  pub request : request_valid kind n ≡ true
  pub address : a < addresses
  pub row : Row
  pub found : row_of rules (type_of a) (index_of a) (accounts s) ≡ Some row
  pub has : edition_matches row.editions (edition c) ≡ true
  pub given : in_row s c row.presence row.fetch row.store (request_of kind a n) ≡ t

module _ (s c p : List ℕ) (kind a n : ℕ) (f : Translation → Bool) (x : Apart f) where
  -- once the first tests have passed
  in_segment_lem : {t : Translation} → f t ≡ true → buffers_valid s c p ≡ true → request_valid kind n ≡ true → a < addresses
      → (g : Option Row) → segment_of (edition c) (type_of a) (index_of a) (accounts s) ≡ g → in_segment s c g (request_of kind a n) ≡ t
      → InRow s c p kind a n t
  unfolding in_segment
  in_segment_lem {t} l b v h None w e = absurd (differ (f t) l (ap f (sym e) ∙ x.segment))
  in_segment_lem l b v h (Some r) w e =
      let g = segment_found (edition c) (type_of a) (index_of a) (accounts s) r w in
      record { buffers = b; request = v; address = h; row = r; found = g.0; has = g.1; given = e }

  -- an answer that passes such a test comes from a row
  pub in_row_lem : {t : Translation} → translate_of s c p kind a n ≡ t → f t ≡ true → InRow s c p kind a n t
  unfolding translate_of first_checks
  in_row_lem {t} e l =
      let h₁ = peel f t l _ Invalid _ x.invalid (simp refusing_then at e) in
      let h₂ = peel f t l _ BadRequest _ x.request h₁.1 in
      let h₃ = peel f t l _ BadAddress _ x.address h₂.1 in
      in_segment_lem l h₁.0 h₂.0 (ltb-true a addresses h₃.0) _ refl h₃.1

-- ---- all tests

-- what the tests of a row ask
pub record RowPassed (s c : List ℕ) (p : Presence) (fetch : FetchRule) (store : StoreRule) (q : Request) : Type 0 where
  pub entry : concerned_valid s c p q ≡ true
  pub aligned : aligned q.kind q.offset q.length ≡ true
  pub permitted : permitted q.kind fetch store (running c p q) (owned s c p q) ≡ true
  pub within : q.offset % page_size + q.length ≤ page_size
  pub present : q.offset + q.length ≤ end_of s c p q

-- no test gives an answer that passes `last`
last_apart : Apart last
last_apart =
    record { invalid = refl; request = refl; address = refl; segment = refl; alignment = refl; permission = refl; crossing = refl }

-- before an answer that no test gives, they passed
row_passed : (s c : List ℕ) (p : Presence) (fetch : FetchRule) (store : StoreRule) (q : Request) (t : Translation) → last t ≡ true → in_row s c p fetch store q ≡ t
    → RowPassed s c p fetch store q × (place_of s c p q ≡ t)
row_passed s c p fetch store q t l e =
    let x = row-tested s c p fetch store q last last_apart t l e in
    let h = peel last t l _ (Absent _) _ refl x.1 in (
      record {
        entry = x.0.entry;
        aligned = x.0.aligned;
        permitted = x.0.permitted;
        within = x.0.within;
        present = leb-true (q.offset + q.length) (end_of s c p q) h.0;
      },
      h.1,
    )

-- what an answer that no test gives says: a place, or "last 8"
pub record Accepted (s c p : List ℕ) (kind a n : ℕ) (t : Translation) : Type 0 where
  pub buffers : buffers_valid s c p ≡ true
  pub request : request_valid kind n ≡ true
  pub address : a < addresses
  pub row : Row
  pub found : row_of rules (type_of a) (index_of a) (accounts s) ≡ Some row
  pub has : edition_matches row.editions (edition c) ≡ true
  pub passed : RowPassed s c row.presence row.fetch row.store (request_of kind a n)
  pub place : place_of s c row.presence (request_of kind a n) ≡ t

-- an answer that no test gives comes after all of them
pub accepted : (s c p : List ℕ) (kind a n : ℕ) {t : Translation} → translate_of s c p kind a n ≡ t → last t ≡ true → Accepted s c p kind a n t
accepted s c p kind a n {t} e l =
    let x = in_row_lem s c p kind a n last last_apart e l in
    let w = row_passed s c x.row.presence x.row.fetch x.row.store (request_of kind a n) t l x.given in
    record { buffers = x.buffers; request = x.request; address = x.address; row = x.row; found = x.found; has = x.has; passed = w.0; place = w.1 }

-- and where they all passed, the place of the row is the answer
pub accepted_answer : {s c p : List ℕ} {kind a n : ℕ} {t : Translation} → Accepted s c p kind a n t → translate_of s c p kind a n ≡ t
unfolding translate_of first_checks in_segment in_row row_check row_checks within need ◌then◌
accepted_answer x =
    rw (
      x.buffers,
      x.request,
      lt-ltb _ _ x.address,
      segment_is _ _ _ _ _ x.found x.has,
      x.passed.entry,
      x.passed.aligned,
      x.passed.permitted,
      le-leb _ _ x.passed.within,
      le-leb _ _ x.passed.present,
    )
    x.place

-- ---- account data

-- what the tests ask of an access to account data, "type 3"
pub record DataAccess (s : List ℕ) (a n : ℕ) : Type 0 where
  pub type : type_of a ≡ 3
  pub account : index_of a < accounts s
  pub entry : entry_valid s (account_of a) ≡ true
  pub within : offset_of a % page_size + n ≤ page_size
  pub present : offset_of a + n ≤ data_length (entry_of s (account_of a))
  pub some : 1 ≤ n

-- the place of a byte of account data, by the page's frame
abbrev pub data_answer : List ℕ → List ℕ → ℕ → ℕ → Translation
data_answer s c kind a = data_place c kind (account_of a) (offset_of a) ((entry_of s (account_of a)).start + offset_of a)

-- an answer in type 3 that no test gives says that they passed, and is that place
pub data_accepted : (s c p : List ℕ) (kind a n : ℕ) {t : Translation} → translate_of s c p kind a n ≡ t → last t ≡ true → type_of a ≡ 3
    → DataAccess s a n × (data_answer s c kind a ≡ t)
unfolding concerned_valid end_of start_of source_of place_in place_of
data_accepted s c p kind a n e l type =
    let x = accepted s c p kind a n e l in
    let f : row_of rules 3 (index_of a) (accounts s) ≡ Some x.row = rw type at x.found in
    let d : x.row.presence ≡ Data = type_data (index_of a) (accounts s) x.row f in
    let w : RowPassed s c Data x.row.fetch x.row.store (request_of kind a n) = rw d at x.passed in
    let some : 1 ≤ n = (request_length kind n x.request).0 in (
      record {
        type = type;
        account = data_known 3 (index_of a) (accounts s) x.row f d;
        entry = w.entry;
        within = w.within;
        present = omega (arith, w.present);
        some = some;
      },
      rw d at x.place,
    )
