-- `changes::list::write_changes` meets its contract. The loop's invariant: the entries and the pages that are left, put in from here on, give
-- what is promised. Assumes nothing.
use Rattle.std.proofs.Common.{◌≡◌, ℕ, ◌+◌, ◌*◌, ◌≤◌, ◌<◌, length, get_or, List, ◌∷◌, suc, sym, ◌∙◌, add-one, arith, drop, length-drop, drop_of_length-le, drop-cons}
use Rattle.layout.specs.Page.{page_size}
use Rattle.layout.specs.List.{pages_at, list_header, change_at, change_size}
use Rattle.words.specs.Words.{splice}
use Rattle.changes.specs.List.{joined}
use Rattle.changes.specs.Copies.{code_entry, code_page, code_key, code_depth}
use Rattle.changes.proofs.list.write_changes.Goals as goal
use Rattle.changes.proofs.list.write_changes.Invariants.{Put}
use Rattle.words.proofs.Splice.{length-splice}
use Rattle.changes.specs.Entry.{change_of}
use Rattle.changes.proofs.Written.{rows_turn, length_change, length-padded}

-- the codes xs put in, their entries from a on and their pages from b on
abbrev put : List ℕ → List ℕ → List ℕ → ℕ → ℕ → List ℕ → List ℕ
put s p o a b xs = splice (splice o a (joined (code_entry s) xs)) b (joined (code_page s p) xs)

module _ (s p order out₀ out : List ℕ) (j : ℕ) (g : Put s p order out₀ out j) where
  -- one more is put in
  turn : (o : List ℕ) → j < length order
      → o ≡ splice (splice out (change_at j) (code_entry s (get_or order j 0))) (pages_at (length order) + page_size * j) (code_page s p (get_or order j 0))
      → Put s p order out₀ o (j + 1)
  turn o l e =
      let n : ℕ = length order in
      let x : ℕ = get_or order j 0 in
      let d : drop j order ≡ x ∷ drop (suc j) order = drop-cons order j 0 l in
      let a : change_at (j + 1) ≡ change_at j + change_size = omega arith in
      let b : pages_at n + page_size * (j + 1) ≡ pages_at n + page_size * j + page_size = omega arith in
      let r =
      rows_turn (code_entry s) (code_page s p) change_size page_size (λ k. length_change (change_of s (λ _. code_depth k) (code_key k))) (λ k. length-padded _ _) out (change_at j) (pages_at n + page_size * j) x (drop (suc j) order)
      (omega (arith, length-drop (suc j) order)) in
      record {
        done = omega arith;
        as_long = rw e (length-splice _ _ _ ∙ length-splice _ _ _ ∙ g.as_long);
        left = rw (a, b, add-one j, e) (sym r ∙ rw d at g.left);
      }

  -- all are put in
  stop : length order ≤ j → out ≡ put s p out₀ list_header (pages_at (length order)) order
  unfolding joined splice
  stop l = rw (drop_of_length-le order {i = j} l) at g.left

pub loop-j-preserved : goal.loop-j-preserved
loop-j-preserved c = turn _ _ _ _ _ _ c.loop-j.invariant _ c.loop-j-test.true c.write_change.ensures

pub returns : goal.returns
returns c = stop _ _ _ _ _ _ c.loop-j.invariant c.loop-j-test.false
