use Rattle.std.proofs.Common.{◌≡◌, ℕ, ◌≤◌, length, Bool, true, false, List, refl, sym, ◌∙◌, arith, rules}
use Rattle.translate.specs.Translate.{Ready, Named, in_row, translate_of, in_segment}
use Rattle.translate.proofs.translation.translate.Goals as goal
use Rattle.layout.specs.Control.{table_at}
use Rattle.refusal.specs.Checks.{need, ◌then◌, Check}
use Rattle.refusal.specs.declared.Refusal.{Refusal}
use Rattle.refusal.specs.declared.Refusal.TheVariants.{Invalid, NoSegment}
use Rattle.refusal.proofs.Checks.{need_then}
use Rattle.address.specs.Address.{type_of, index_of, offset_of}
use Rattle.snapshot.specs.Header.{header_of, accounts, snapshot_valid}
use Rattle.snapshot.specs.declared.header.Header.{Header}
use Rattle.snapshot.proofs.Facts.{snapshot_facts}
use Rattle.control.specs.Control.{edition, control_ready, buffers_valid}
use Rattle.control.proofs.Facts.{BuffersFacts, control_facts, buffers_facts, ready_decides}
use Rattle.segments.specs.Rules.{segment_of}
use Rattle.segments.specs.declared.rules.Row.{Row}
use Rattle.segments.proofs.Table.{segment_found}
use Rattle.translate.specs.Checks.{first_checks}
use Rattle.translate.specs.declared.request.Request.{Request}
use Rattle.translate.proofs.Accepted.{named}
use Rattle.std.specs.Prelude.{Err, Ok, Option, Some, None}
use Rattle.translate.specs.Place.{Translation}

-- `translate::translation::translate` meets its contract: a first test refuses, or no row is found, or the row's function answers, which has
-- what the first tests give. Assumes nothing.
-- what is asked of the segment
abbrev request : ℕ → ℕ → ℕ → ℕ → Request
request kind index offset n = record { kind = kind; index = index; offset = offset; length = n }

module _ (s c p : List ℕ) (kind a n : ℕ) where
  -- the snapshot is not valid
  not_valid : snapshot_valid s ≡ false → Err Invalid ≡ translate_of s c p kind a n
  unfolding translate_of buffers_valid first_checks need ◌then◌
  not_valid e = rw e

  -- the first tests that were made are the definition's
  same_check : {h : Header} {ready : Bool} {check : Check} → snapshot_valid s ≡ true → h ≡ header_of s → ready ≡ control_ready c p h.accounts
      → check ≡ first_checks ready kind a n
      → check ≡ first_checks (buffers_valid s c p) kind a n
  same_check v header e tested = rw (← ready_decides s c p v header e) tested

  module _ {check : Check} (tested : check ≡ first_checks (buffers_valid s c p) kind a n) where
    -- one refuses
    stopped : {r : Refusal} {x : Translation} → check ≡ Err r → x ≡ Err r → x ≡ translate_of s c p kind a n
    unfolding translate_of
    stopped e h = rw (← tested, e) h

    module _ (pass : check ≡ Ok tt) where
      -- the header is there
      header_there : table_at ≤ length c
      unfolding first_checks
      header_there = (control_facts c (buffers_facts s c p (need_then _ _ _ (sym tested ∙ pass)).0).control).header

      -- the row's function has what it needs of them
      has : {i o : ℕ} → o ≡ offset_of a → Ready s c (request kind i o n)
      unfolding first_checks
      has e =
          let t₁ = need_then _ _ _ (sym tested ∙ pass) in
          let f : BuffersFacts s c p = buffers_facts s c p t₁.0 in
          record {
            snapshot = f.snapshot;
            control = f.control;
            current = f.current;
            request = (need_then _ _ _ t₁.1).0;
            offset = omega arith;
          }

      module _ {h : Header} {v t i : ℕ} {found : Option Row} (built : v ≡ edition c) (header : h ≡ header_of s) (type : t ≡ type_of a) (index : i ≡ index_of a)
          (sought : found ≡ segment_of v t i h.accounts) where
        -- the segment that was looked for is the definition's
        same : {o : ℕ} → o ≡ offset_of a → translate_of s c p kind a n ≡ in_segment s c found (request kind i o n)
        unfolding translate_of
        same e = rw (← tested, pass, sought, built, header, type, index, e)

        -- no row is found
        missing : found ≡ None → Err NoSegment ≡ translate_of s c p kind a n
        unfolding in_segment
        missing m = rw (same refl, m)

        -- a row is found: its function answers
        answered : {r : Row} {o : ℕ} {x : Translation} → found ≡ Some r → o ≡ offset_of a
            → x ≡ in_row s c r.presence r.fetch r.store (request kind i o n)
            → x ≡ translate_of s c p kind a n
        unfolding in_segment
        answered f e h = rw (same e, f) h

        -- it has all that it asks
        asked : {r : Row} {o : ℕ} → found ≡ Some r → o ≡ offset_of a
            → Ready s c (request kind i o n) × Named s r.presence (request kind i o n)
        asked {r} {o} f e = (has e, named s t (request kind i o n) r (segment_found v t i (accounts s) r ((rw header at (sym sought)) ∙ f)).0 r.presence refl)

pub returns-then-not-valid : goal.returns-then-not-valid
returns-then-not-valid c = not_valid _ _ _ _ _ _ (sym c.valid.ensures ∙ c.if-not-valid.true)

pub whole_header-h-requires : goal.whole_header-h-requires
whole_header-h-requires c = (snapshot_facts _ (sym c.valid.ensures ∙ c.if-not-valid.false)).header

pub returns-in_err-first_checks : goal.returns-in_err-first_checks
returns-in_err-first_checks c =
    stopped _ _ _ _ _ _ (same_check _ _ _ _ _ _ (sym c.valid.ensures ∙ c.if-not-valid.false) c.whole_header-h.ensures c.control_ready.ensures c.first_checks.ensures) c.in_err-first_checks.was (search rules)

pub edition_of-requires : goal.edition_of-requires
edition_of-requires c = header_there _ _ _ _ _ _ (same_check _ _ _ _ _ _ (sym c.valid.ensures ∙ c.if-not-valid.false) c.whole_header-h.ensures c.control_ready.ensures c.first_checks.ensures) c.in_ok-first_checks.was

pub returns-in_default : goal.returns-in_default
returns-in_default c =
    missing _ _ _ _ _ _ (same_check _ _ _ _ _ _ (sym c.valid.ensures ∙ c.if-not-valid.false) c.whole_header-h.ensures c.control_ready.ensures c.first_checks.ensures) c.in_ok-first_checks.was
    c.edition_of.ensures c.whole_header-h.ensures c.segment_type.ensures c.index-index.ensures c.segment_of-found.ensures c.in_default.is

pub in_row-requires-clause-ready : goal.in_row-requires-clause-ready
in_row-requires-clause-ready c =
    has _ _ _ _ _ _ (same_check _ _ _ _ _ _ (sym c.valid.ensures ∙ c.if-not-valid.false) c.whole_header-h.ensures c.control_ready.ensures c.first_checks.ensures) c.in_ok-first_checks.was c.offset.ensures

pub in_row-requires-clause-named : goal.in_row-requires-clause-named
in_row-requires-clause-named c =
    (asked _ _ _ _ _ _ (same_check _ _ _ _ _ _ (sym c.valid.ensures ∙ c.if-not-valid.false) c.whole_header-h.ensures c.control_ready.ensures c.first_checks.ensures) c.in_ok-first_checks.was
    c.edition_of.ensures c.whole_header-h.ensures c.segment_type.ensures c.index-index.ensures c.segment_of-found.ensures c.in-Some.is c.offset.ensures).1

pub returns : goal.returns
returns c =
    answered _ _ _ _ _ _ (same_check _ _ _ _ _ _ (sym c.valid.ensures ∙ c.if-not-valid.false) c.whole_header-h.ensures c.control_ready.ensures c.first_checks.ensures) c.in_ok-first_checks.was
    c.edition_of.ensures c.whole_header-h.ensures c.segment_type.ensures c.index-index.ensures c.segment_of-found.ensures c.in-Some.is c.offset.ensures c.in_row.ensures
