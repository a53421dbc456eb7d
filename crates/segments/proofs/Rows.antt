-- The turns of a loop that looks for a row, and what a row that was found tells, by the definition's recursion.
-- Assumes nothing.
use Rattle.std.proofs.Common.{ℕ, suc, ◌+◌, ◌<◌, ◌≤◌, ◌≡◌, sym, ◌∙◌, true, false, Some, None, List, [], ◌∷◌, add-one, arith, length, get_or, drop, drop_of_length-le, drop-cons}
use mathlib.Core.List.{Memᴰ}
use Rattle.choice.proofs.Tests.{by_test, pick_true, pick_false}
use Rattle.segments.specs.Rules.{row_of, row_matches}
use Rattle.segments.specs.declared.rules.Row.{Row}

module _ (t i n : ℕ) (r : Row) (rs : List Row) where
  -- the first row is that of the pair
  pub first_hit : row_matches r t i n ≡ true → row_of (r ∷ rs) t i n ≡ Some r
  unfolding row_of
  first_hit e = pick_true (row_matches r t i n) (Some r) (row_of rs t i n) e

  -- it is not: the rest is looked through
  pub first_miss : row_matches r t i n ≡ false → row_of (r ∷ rs) t i n ≡ row_of rs t i n
  unfolding row_of
  first_miss e = pick_false (row_matches r t i n) (Some r) (row_of rs t i n) e

-- ---- the turns of a loop that looks at row k

module _ (rs : List Row) (k : ℕ) (d : Row) (t i n : ℕ) where
  -- row k is that of the pair: it is found
  pub hit : k < length rs → row_matches (get_or rs k d) t i n ≡ true → row_of (drop k rs) t i n ≡ Some (get_or rs k d)
  hit h e = rw (drop-cons rs k d) (first_hit t i n (get_or rs k d) (drop (suc k) rs) e)

  -- it is not: the search goes on behind it
  pub miss : k < length rs → row_matches (get_or rs k d) t i n ≡ false → row_of (drop k rs) t i n ≡ row_of (drop (k + 1) rs) t i n
  miss h e = rw (add-one k, drop-cons rs k d) (first_miss t i n (get_or rs k d) (drop (suc k) rs) e)

-- no row is left to look at
pub over : (rs : List Row) (k t i n : ℕ) → length rs ≤ k → row_of (drop k rs) t i n ≡ None
unfolding row_of
over rs k t i n h = rw (drop_of_length-le rs h)

-- ---- what is found

module _ (t i n : ℕ) where
  -- a row found is that of the pair, and stands in the list
  pub row_found : (rs : List Row) (r : Row) → row_of rs t i n ≡ Some r → (row_matches r t i n ≡ true) × Memᴰ r rs
  unfolding row_of
  row_found [] r e = let z : ◌≡◌ {A = ℕ} 0 1 = cc in absurd (omega arith)
  row_found (s ∷ rs) r e =
      by_test (row_matches s t i n)
      (λ h. let q : r ≡ s = cc (first_hit t i n s rs h) in (rw q h, Memᴰ.head q))
      (λ h. let f = row_found rs r (sym (first_miss t i n s rs h) ∙ e) in (f.0, Memᴰ.tail f.1))

  first_other : (r : Row) (rs : List Row) → row_of (r ∷ rs) t i n ≡ None → row_matches r t i n ≡ false
  first_other r rs e =
      by_test (row_matches r t i n)
      (λ h. let z : ◌≡◌ {A = ℕ} 0 1 = cc (first_hit t i n r rs h) in absurd (omega arith)) (λ h. h)

  -- where none is found, no row of the list is that of the pair
  pub row_missing : (rs : List Row) → row_of rs t i n ≡ None → (r : Row) → Memᴰ r rs → row_matches r t i n ≡ false
  row_missing [] e r m = elim m [ ]
  row_missing (s ∷ rs) e r (Memᴰ.head q) = rw q (first_other s rs e)
  row_missing (s ∷ rs) e r (Memᴰ.tail m) =
      row_missing rs (sym (first_miss t i n s rs (first_other s rs e)) ∙ e) r m
