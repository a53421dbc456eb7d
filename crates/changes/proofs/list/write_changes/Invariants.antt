use Rattle.std.proofs.Common.{◌≡◌, ℕ, ◌+◌, ◌*◌, ◌≤◌, length, List, drop}
use Rattle.layout.specs.Page.{page_size}
use Rattle.layout.specs.List.{pages_at, list_header, change_at}
use Rattle.words.specs.Words.{splice}
use Rattle.changes.specs.List.{joined}
use Rattle.changes.specs.Copies.{code_entry, code_page}
use Rattle.changes.proofs.list.write_changes.Given as goal

-- the codes xs put in, their entries from a on and their pages from b on
abbrev pub put : List ℕ → List ℕ → List ℕ → ℕ → ℕ → List ℕ → List ℕ
put s p o a b xs = splice (splice o a (joined (code_entry s) xs)) b (joined (code_page s p) xs)

-- the first j of the codes are put in
pub record Put (s p order out₀ out : List ℕ) (j : ℕ) : Type 0 where
  pub done : j ≤ length order
  pub as_long : length out ≡ length out₀
  pub left : put s p out (change_at j) (pages_at (length order) + page_size * j) (drop j order) ≡ put s p out₀ list_header (pages_at (length order)) order

abbrev pub invariant-loop-j : goal.invariant-loop-j
invariant-loop-j l = Put l.s l.pool l.order l.initial.out l.out l.j
