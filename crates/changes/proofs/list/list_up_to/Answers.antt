-- `changes::list::list_up_to` meets its contract: the copies are gathered and put in order; the first test that fails refuses. Assumes
-- nothing.
use Rattle.std.proofs.Common.{◌≡◌, true, ℕ, ◌≤◌, ◌<◌, get_or, take, false, List, Bool, refl, sym, ap, ◌∙◌, arith, length, length-take-le, Ok, Err}
use Rattle.layout.specs.Control.{frame_limit}
use Rattle.control.specs.Control.{buffers_valid}
use Rattle.control.proofs.Facts.{control_facts, buffers_facts}
use Rattle.changes.specs.Copies.{key_twice, Gathers}
use Rattle.changes.specs.declared.copies.Unlisted.{Unlisted}
use Rattle.sort.specs.Sort.{sorted}
use Rattle.sort.proofs.Sorted.{length-sorted}
use Rattle.changes.proofs.Answers.{Listed, sorted_codes, bad_entry, bad_twice, bad_room, code_fits, written}
use Rattle.changes.proofs.list.list_up_to.Goals as goal

-- what the pass says where it fails
gathers_as : (s c codes : List ℕ) {u v : Unlisted} → u ≡ v → Gathers s c codes (Err u) → Gathers s c codes (Err v)
gathers_as s c codes e g = rw e at g

module _ (s c p codes : List ℕ) (n : ℕ) (v : buffers_valid s c p ≡ true) (g : Gathers s c codes (Ok n)) where
  -- the copies are no more than frames can be
  few : n ≤ frame_limit
  few = omega (arith, g.0, (control_facts c (buffers_facts s c p v).control).few_frames)

  -- all are sorted
  counted : (order : List ℕ) → order ≡ sorted (take n codes) → length order ≡ n
  counted order e = ap length e ∙ length-sorted (take n codes) ∙ length-take-le n codes g.1

  -- the copies can be listed
  listed : (bytes : (k : ℕ) → get_or c k 0 < 256) {order : List ℕ} → order ≡ sorted (take n codes) → {t : Bool} → t ≡ key_twice order → t ≡ false
      → Listed s c p order
  listed bytes e f h =
      record {
        valid = v;
        bytes = bytes;
        codes = sorted_codes c (take n codes) e g.2;
        entries = g.3;
        differ = sym f ∙ h;
      }

pub gather-requires : goal.gather-requires
gather-requires g c = let f = buffers_facts _ _ _ c.requires.0 in (f.snapshot, f.control)

pub returns-in-Err-NotThere : goal.returns-in-Err-NotThere
returns-in-Err-NotThere g c =
    bad_entry _ _ _ c.requires.0 (λ k. (c.type_inv.c k).fits) _ (gathers_as _ _ _ c.in-Err-NotThere.field-0-is c.in-Err-NotThere.ensures)

pub returns-in-Err-Full : goal.returns-in-Err-Full
returns-in-Err-Full g c =
    let f = gathers_as _ _ _ c.in-Err-Full.field-0-is c.in-Err-Full.ensures in
    (omega (arith, f, (control_facts _ (buffers_facts _ _ _ c.requires.0).control).few_frames), refl)

pub returns-then-claimed_twice : goal.returns-then-claimed_twice
returns-then-claimed_twice g c =
    bad_twice _ _ _ c.requires.0 (λ k. (c.type_inv.c k).fits) _
    (sorted_codes _ _ c.sort.ensures c.in-Ok.ensures.2)
    (sym c.claimed_twice.ensures ∙ c.if-claimed_twice.true)

pub list_total-requires : goal.list_total-requires
list_total-requires g c = omega (arith, few _ _ _ _ _ c.requires.0 c.in-Ok.ensures)

pub returns-then-out-list_total : goal.returns-then-out-list_total
returns-then-out-list_total g c =
    bad_room _ _ _ _
    (listed _ _ _ _ _ c.requires.0 c.in-Ok.ensures (λ k. (c.type_inv.c k).fits)
    c.sort.ensures c.claimed_twice.ensures c.if-claimed_twice.false)
    _ (counted _ _ _ _ _ c.requires.0 c.in-Ok.ensures _ c.sort.ensures) c.list_total.ensures c.if-out-list_total.true

pub write_header-requires : goal.write_header-requires
write_header-requires g c = (few _ _ _ _ _ c.requires.0 c.in-Ok.ensures, omega arith)

pub write_changes-requires-clause-few : goal.write_changes-requires-clause-few
write_changes-requires-clause-few g c =
    let e = counted _ _ _ _ _ c.requires.0 c.in-Ok.ensures _ c.sort.ensures in
    (omega (arith, e, few _ _ _ _ _ c.requires.0 c.in-Ok.ensures), omega (arith, e))

pub write_changes-requires-clause-by_index : goal.write_changes-requires-clause-by_index
write_changes-requires-clause-by_index g c =
    code_fits _ _ _ _
    (listed _ _ _ _ _ c.requires.0 c.in-Ok.ensures (λ k. (c.type_inv.c k).fits)
    c.sort.ensures c.claimed_twice.ensures c.if-claimed_twice.false)

pub returns : goal.returns
returns g c =
    written _ _ _ _
    (listed _ _ _ _ _ c.requires.0 c.in-Ok.ensures (λ k. (c.type_inv.c k).fits)
    c.sort.ensures c.claimed_twice.ensures c.if-claimed_twice.false)
    _ (counted _ _ _ _ _ c.requires.0 c.in-Ok.ensures _ c.sort.ensures) c.list_total.ensures c.if-out-list_total.false
    c.write_header.ensures c.write_changes.ensures
