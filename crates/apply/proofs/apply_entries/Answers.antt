-- `apply::apply_entries` meets its contract. The loop's invariant: the first i entries are applied. Assumes nothing.
use Rattle.std.proofs.Common.{◌≡◌, true, ◌+◌, ◌<◌, length, ℕ, List, refl, ap, ◌∙◌, add-one, arith}
use Rattle.apply.specs.Apply.{list_count, change_good, list_good, apply_entry, applied}
use Rattle.apply.proofs.apply_entries.Goals as goal
use Rattle.snapshot.specs.declared.accounts.Account.{Account}
use Rattle.apply.proofs.Good.{layout_facts, list_facts, list_change}
use Rattle.apply.proofs.Applied.{length-applied}

module _ (l : List ℕ) (a : Account) (d : List ℕ) {x : List ℕ} (i : ℕ) (e : x ≡ applied l a d i) where
  -- an entry is good for the data however many are applied
  good_yet : list_good l a (length d) ≡ true → i < list_count l → change_good l a (length x) i ≡ true
  good_yet g h = rw (ap length e ∙ length-applied l a d i) (list_change l a (length d) i g h)

  -- one entry more
  turn : {y : List ℕ} → y ≡ apply_entry l a x i → y ≡ applied l a d (i + 1)
  unfolding applied
  turn f = f ∙ rw (e, add-one i)

pub u32_at-i-end-requires : goal.u32_at-i-end-requires
u32_at-i-end-requires c = let f = layout_facts _ (list_facts _ _ _ c.requires).0 in omega arith

pub loop-i-init : goal.loop-i-init
unfolding applied
loop-i-init c = refl

pub apply_entry-requires-clause-l_value : goal.apply_entry-requires-clause-l_value
apply_entry-requires-clause-l_value c = ((list_facts _ _ _ c.requires).0, omega arith)

pub apply_entry-requires-clause-i_value : goal.apply_entry-requires-clause-i_value
apply_entry-requires-clause-i_value c = good_yet _ _ _ _ c.loop-i.invariant c.requires (omega arith)

pub loop-i-preserved : goal.loop-i-preserved
loop-i-preserved c = turn _ _ _ _ c.loop-i.invariant c.apply_entry.ensures
