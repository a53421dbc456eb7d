-- What the functions share: an entry that is free by its use byte, the search that starts at entry 0, and those from either end. Assumes nothing.
use Rattle.std.proofs.Common.{◌≡◌, ℕ, suc, ◌+◌, ◌-◌, ◌≤◌, Bool, ◌≢◌, true, false, List, refl, sym, ◌∙◌, arith, eqb, eq-eqb, ne_eqb, eqb-true}
use Rattle.std.proofs.Math.Nat.{sub-zero}
use borrow.Author.Tests.{eqb-false}
use mir.Val.{bool_byte}
use Rattle.choice.specs.Search.{seek, lowest, count}
use Rattle.choice.proofs.Counting.{count_hit, count_pass}
use Rattle.choice.proofs.Tests.{by_test}
use Rattle.layout.specs.Control.{usage_free}
use Rattle.frames.specs.Table.{frame_entry_of, is_free}
use Rattle.frames.specs.declared.claim.End.{End}
use Rattle.frames.specs.declared.claim.End.TheVariants.{Lowest, Highest}
use Rattle.frame_search.specs.Match.{group_size, NoneOf, from_end, group_end}

module _ (c : List ℕ) (i usage : ℕ) (e : usage ≡ (frame_entry_of c i).usage) where
  -- an entry whose use byte is 0 is free
  free_is : usage ≡ usage_free → is_free c i ≡ true
  unfolding is_free
  free_is h = eq-eqb _ _ (sym e ∙ h)

  -- another is not
  free_fails : usage ≢ usage_free → is_free c i ≡ false
  unfolding is_free
  free_fails h = ne_eqb _ _ (λ d. h (e ∙ d))

-- entry i is free: one more
pub free_more : (c : List ℕ) (i : ℕ) → (frame_entry_of c i).usage ≡ usage_free → count (is_free c) (i + 1) ≡ count (is_free c) i + 1
free_more c i h = count_hit (is_free c) i (free_is c i _ refl h)

-- entry i is in use: as many
pub free_same : (c : List ℕ) (i : ℕ) → (frame_entry_of c i).usage ≢ usage_free → count (is_free c) (i + 1) ≡ count (is_free c) i
free_same c i h = count_pass (is_free c) i (free_fails c i _ refl h)

-- of a group k entries are looked at, of which n are free, and the next is asked
pub free_turn : (c : List ℕ) (i k n m : ℕ) {usage one : ℕ} → usage ≡ (frame_entry_of c (i + k)).usage → one ≡ bool_byte (eqb usage usage_free) → n ≤ k
    → count (is_free c) (i + k) ≡ m + n → (n + one ≤ k + 1) × (count (is_free c) (i + (k + 1)) ≡ m + (n + one))
free_turn c i k n m {usage} e b l h =
    let s : i + (k + 1) ≡ i + k + 1 = omega arith in
    rw s (
    by_test (eqb usage usage_free)
    (λ t.
    let o = rw t at b in
    let q = count_hit (is_free c) (i + k) (free_is c (i + k) usage e (eqb-true _ _ t)) in
    (omega arith, omega arith))
    (λ t.
    let o = rw t at b in
    let q = count_pass (is_free c) (i + k) (free_fails c (i + k) usage e (eqb-false _ _ t)) in
    (omega arith, omega arith))
    )

-- nothing is looked at yet
pub search_start : (f : ℕ → Bool) (n : ℕ) → seek f 0 (n - 0) ≡ lowest f n
search_start f n = rw sub-zero

-- ---- from either end

-- tests that agree at each entry agree in either order
pub end_ext : (end : End) (f g : ℕ → Bool) (n : ℕ) → ((i : ℕ) → f i ≡ g i) → (k : ℕ) → from_end end f n k ≡ from_end end g n k
end_ext Lowest f g n e k = e k
end_ext Highest f g n e k = e (n - suc k)

-- a group in which the test fails
pub group_none : (end : End) (f : ℕ → Bool) (n k : ℕ) {start : ℕ} → k + group_size ≤ n → start + group_size ≡ group_end end k n → NoneOf f start group_size
    → NoneOf (from_end end f n) k group_size
group_none Lowest f n k l e h j a b = h j (omega arith) (omega arith)
group_none Highest f n k l e h j a b = h (n - suc j) (omega arith) (omega arith)
