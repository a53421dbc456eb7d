-- Where a fetch is allowed, translation answers it as a load of the same bytes, refusals too; elsewhere it names no place. In the older edition
-- 0/3 is no segment. Assumes nothing.
use Rattle.std.proofs.Common.{ℕ, ◌≡◌, refl, sym, ◌∙◌, Bool, true, inl, inr, ⊎_elim, Some, None, List, arith, eqb, eqb-true, eq-eqb}
use Rattle.std.proofs.Math.Decide.{dec_lt}
use Rattle.layout.specs.Control.{older}
use Rattle.choice.proofs.Tests.{differ, both_true}
use Rattle.refusal.specs.declared.Refusal.TheVariants.{NoSegment}
use Rattle.address.specs.Address.{type_of, index_of, offset_of}
use Rattle.snapshot.specs.Header.{accounts}
use Rattle.snapshot.specs.declared.accounts.Account.{Account}
use Rattle.control.specs.Control.{edition, buffers_valid}
use Rattle.frames.specs.Table.{frame_of}
use Rattle.segments.specs.Kinds.{kind_load, kind_fetch, request_valid, aligned}
use Rattle.segments.specs.Rules.{rules, row_of, edition_matches, segment_of, fetchable, permitted}
use Rattle.segments.specs.declared.rules.FetchRule.{FetchRule}
use Rattle.segments.specs.declared.rules.Presence.{Presence}
use Rattle.segments.specs.declared.rules.Presence.TheVariants.{Transaction, Shadow, Program, Context, Metadata, Data, Stack, Heap}
use Rattle.segments.specs.declared.rules.Row.{Row}
use Rattle.segments.specs.declared.rules.StoreRule.{StoreRule}
use Rattle.segments.proofs.Table.{data_row, data_row_lem, data_none, data_type, program_row, program-row, program_is, program_pair, segment_is, segment_none, older_none, fetch_of, fetch_of_lem, permitted_fetch, permitted_load}
use Rattle.translate.specs.Checks.{first_checks, row_checks}
use Rattle.translate.specs.Fetches.{InOwnData, InProgram, Fetchable}
use Rattle.translate.specs.Translate.{program, concerned_valid, owned, running, end_of, start_of, source_of, row_check, data_place_in, data_place, region_place_in, region_place, place_in, place_of, in_row, in_segment, translate_of}
use Rattle.translate.specs.declared.place.Place.{Place}
use Rattle.translate.specs.declared.request.Request.{Request}
use Rattle.translate.proofs.Accepted.{request_of, accepted}
use Rattle.std.specs.Prelude.{Err, None, Ok, Option, Some}
use Rattle.pages.specs.declared.Frame.{Frame}

-- ---- a fetch and a load in one row

-- neither stores, so a page's frame gives both one place
data_same : (c : List ℕ) (a : Account) (offset at : ℕ) (x : Option Frame) → data_place_in c kind_fetch a offset at x ≡ data_place_in c kind_load a offset at x
data_same c a offset at (Some f) = refl
data_same c a offset at None = refl

region_same : (c : List ℕ) (offset : ℕ) (x : Option Frame) → region_place_in c kind_fetch offset x ≡ region_place_in c kind_load offset x
region_same c offset (Some f) = refl
region_same c offset None = refl

-- the same tests come first
first_same : (valid : Bool) (a n : ℕ) → first_checks valid kind_fetch a n ≡ first_checks valid kind_load a n
unfolding first_checks request_valid
first_same valid a n = refl

-- neither is a span
aligned_same : (offset n : ℕ) → aligned kind_fetch offset n ≡ aligned kind_load offset n
unfolding aligned
aligned_same offset n = refl

module _ (s c : List ℕ) (a n : ℕ) where
  -- what each asks
  abbrev fetched : Request
  fetched = request_of kind_fetch a n

  abbrev loaded : Request
  loaded = request_of kind_load a n

  -- the same entry is concerned
  entry_same : (p : Presence) → concerned_valid s c p fetched ≡ concerned_valid s c p loaded
  unfolding concerned_valid
  entry_same Transaction = refl
  entry_same Shadow = refl
  entry_same Program = refl
  entry_same Context = refl
  entry_same Metadata = refl
  entry_same Data = refl
  entry_same Stack = refl
  entry_same Heap = refl

  -- the same bytes are present
  end_same : (p : Presence) → end_of s c p fetched ≡ end_of s c p loaded
  unfolding end_of
  end_same Transaction = refl
  end_same Shadow = refl
  end_same Program = refl
  end_same Context = refl
  end_same Metadata = refl
  end_same Data = refl
  end_same Stack = refl
  end_same Heap = refl

  -- at the same place
  place_same : (p : Presence) → place_of s c p fetched ≡ place_of s c p loaded
  unfolding place_of source_of start_of place_in data_place region_place
  place_same Transaction = refl
  place_same Shadow = refl
  place_same Program = refl
  place_same Context = refl
  place_same Metadata = refl
  place_same Data = data_same c (record { 0 = index_of a }) (offset_of a) _ (frame_of c _)
  place_same Stack = region_same c (offset_of a) (frame_of c _)
  place_same Heap = region_same c (offset_of a) (frame_of c _)

  -- so where the fetch is permitted, as every load is, the row answers both alike
  row_same : (p : Presence) (fetch : FetchRule) (store : StoreRule)
      → permitted kind_fetch fetch store (running c p fetched) (owned s c p fetched) ≡ true
      → in_row s c p fetch store fetched ≡ in_row s c p fetch store loaded
  unfolding in_row row_check row_checks
  row_same p fetch store e =
      let load : permitted kind_load fetch store (running c p loaded) (owned s c p loaded) ≡ true = permitted_load kind_load fetch store _ _ (λ k. omega arith) refl in
      rw (entry_same p, e, load, end_same p, place_same p, aligned_same (offset_of a) n)

  module _ (p : List ℕ) where
    -- in the row that is found
    found_same : (r : Row) → segment_of (edition c) (type_of a) (index_of a) (accounts s) ≡ Some r
        → permitted kind_fetch r.fetch r.store (running c r.presence fetched) (owned s c r.presence fetched) ≡ true
        → translate_of s c p kind_fetch a n ≡ translate_of s c p kind_load a n
    unfolding translate_of in_segment
    found_same r found e = rw (found, first_same (buffers_valid s c p) a n, row_same r.presence r.fetch r.store e)

    -- where none is
    none_same : segment_of (edition c) (type_of a) (index_of a) (accounts s) ≡ None → translate_of s c p kind_fetch a n ≡ translate_of s c p kind_load a n
    unfolding translate_of in_segment
    none_same none = rw (none, first_same (buffers_valid s c p) a n)

    -- ---- where it is allowed

    -- in the data of the account that runs
    own_same : InOwnData c a → translate_of s c p kind_fetch a n ≡ translate_of s c p kind_load a n
    unfolding running
    own_same w =
        let may : permitted kind_fetch data_row.fetch data_row.store (running c Data fetched) (owned s c Data fetched) ≡ true =
        permitted_fetch kind_fetch _ _ _ _ refl ∙ rw (eq-eqb _ _ w.built, eq-eqb _ _ w.index) in
        elim (dec_lt (index_of a) (accounts s)) [
          | yes h ↦ found_same data_row (segment_is (edition c) _ _ _ data_row (rw w.type (data_row_lem (index_of a) (accounts s) h)) refl) may
          | no h ↦ none_same (segment_none (edition c) _ _ _ (rw w.type (data_none (index_of a) (accounts s) (omega arith))))
        ]

    -- in 0/3
    program_same : InProgram c a → translate_of s c p kind_fetch a n ≡ translate_of s c p kind_load a n
    program_same w =
        let found : row_of rules (type_of a) (index_of a) (accounts s) ≡ Some program_row = rw (w.type, w.index) (program-row (accounts s)) in
        found_same program_row (segment_is (edition c) _ _ _ program_row found (eq-eqb _ _ w.built)) (permitted_fetch kind_fetch _ _ _ _ refl)

    -- in either
    pub fetch_same : Fetchable c a → translate_of s c p kind_fetch a n ≡ translate_of s c p kind_load a n
    fetch_same w = ⊎_elim own_same program_same w

    -- ---- and nowhere else

    -- by the presence of the row
    where_in : (r : Row) → row_of rules (type_of a) (index_of a) (accounts s) ≡ Some r → edition_matches r.editions (edition c) ≡ true
        → (q : Presence)
        → r.presence ≡ q
        → fetchable (fetch_of q) (running c q fetched) ≡ true
        → Fetchable c a
    unfolding running
    where_in r found has Transaction e h = absurd (differ true refl (sym h))
    where_in r found has Shadow e h = absurd (differ true refl (sym h))
    where_in r found has Program e h =
        let w = program_pair (type_of a) (index_of a) (accounts s) r found e in
        let is : r ≡ program_row = program_is (type_of a) (index_of a) (accounts s) r found e in
        inr (record { built = eqb-true _ _ (rw is at has); type = w.0; index = w.1 })
    where_in r found has Context e h = absurd (differ true refl (sym h))
    where_in r found has Metadata e h = absurd (differ true refl (sym h))
    where_in r found has Data e h =
        let b = both_true (eqb (edition c) older) (eqb (index_of a) (program c).0) h in
        inl (record { built = eqb-true _ _ b.0; type = data_type (type_of a) (index_of a) (accounts s) r found e; index = eqb-true _ _ b.1 })
    where_in r found has Stack e h = absurd (differ true refl (sym h))
    where_in r found has Heap e h = absurd (differ true refl (sym h))

    -- a fetch that leads to a place
    pub fetch_where : {q : Place} → translate_of s c p kind_fetch a n ≡ Ok q → Fetchable c a
    fetch_where e =
        let x = accepted s c p kind_fetch a n e refl in
        let r = x.row in
        let may : fetchable r.fetch (running c r.presence fetched) ≡ true = sym (permitted_fetch kind_fetch _ _ _ _ refl) ∙ x.passed.permitted in
        where_in r x.found x.has r.presence refl (rw (fetch_of_lem (type_of a) (index_of a) (accounts s) r x.found) at may)

    -- ---- 0/3 in the older edition

    -- no access finds it, once the first tests have passed
    pub older_reserved : (kind : ℕ) → edition c ≡ older → type_of a ≡ 0 → index_of a ≡ 3 → first_checks (buffers_valid s c p) kind a n ≡ Ok tt
        → translate_of s c p kind a n ≡ Err NoSegment
    unfolding translate_of in_segment
    older_reserved kind built type index pass = rw (pass, built, type, index, older_none (accounts s))
