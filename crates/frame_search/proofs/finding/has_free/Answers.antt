use Rattle.std.proofs.Common.{◌≡◌, ◌-◌, ◌≤◌, ℕ, List, eqb, leb, sym, ◌∙◌, arith, eq-eqb, ne_eqb, le-leb}
use Rattle.frames.specs.Table.{is_free, free_count}
use Rattle.frame_search.proofs.finding.has_free.Goals as goal
use Rattle.std.proofs.Math.Decide.{ℕ_discrete}
use borrow.Author.Tests.{lt-leb}
use Rattle.choice.specs.Search.{count}
use Rattle.choice.proofs.Counting.{count_grows}
use Rattle.control.specs.Control.{frames}

-- `frame_search::finding::has_free` meets its contract: enough are free where none of n is left. Assumes nothing.
-- none of n is left once as many are counted, in two parts
decided : (c : List ℕ) (n f few left r : ℕ) → f ≡ frames c → few ≤ f → left ≡ n - (count (is_free c) few - count (is_free c) 0)
    → r ≡ left - (count (is_free c) f - count (is_free c) few) → eqb r 0 ≡ leb n (free_count c)
unfolding free_count count
decided c n f few left r e l h g =
    let s : left ≡ n - count (is_free c) few = omega arith in
    let m = count_grows (is_free c) few f l in
    let q : count (is_free c) f ≡ count (is_free c) (frames c) = rw e in
    elim (ℕ_discrete r 0) [
      | yes z ↦ eq-eqb r 0 z ∙ sym (le-leb n (count (is_free c) (frames c)) (omega arith))
      | no z ↦ ne_eqb r 0 z ∙ sym (lt-leb n (count (is_free c) (frames c)) (omega arith))
    ]

pub returns : goal.returns
returns c =
    decided _ _ _ _ _ _ c.frame_count-frames.ensures.0 c.first_few-few.ensures.1 c.wanted_after-left.ensures
    c.wanted_by_groups.ensures
