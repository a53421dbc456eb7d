-- What the library's `find` and `fold` over a range give: what is sought, and what each call of the closure keeps. Assumes nothing.
use Rattle.std.proofs.Common.{◌≡◌, ℕ, ◌+◌, ◌-◌, ◌*◌, ◌/◌, ◌<◌, ◌≤◌, Bool, true, false, ◌||◌, List, [], ◌∷◌, ◌++◌, length, get_or, refl, sym, ◌∙◌, arith}
use Rattle.std.proofs.Math.Decide.{ℕ_discrete}
use Rattle.std.proofs.Math.ListN.{get_or-append}
use Rattle.std.proofs.iter.Yields.{nat_range_steps}
use Rattle.std.proofs.lemmas.Bool.{or_parts}
use Rattle.std.proofs.lemmas.Fn.{fold_over}
use Rattle.std.proofs.lemmas.Iterator.{first_from_Range, YieldsList-from_range}
use Rattle.std.proofs.lemmas.List.{length-append, get_or_push}
use Rattle.std.proofs.lemmas.List.FromFn.{length-range_with_len, get_or-range_with_len}
use Rattle.std.specs.Bool.{⊤}
use Rattle.std.specs.Fn.{Called, CalledAt}
use Rattle.std.specs.Iterator.{YieldsThen, Drains}
use Rattle.std.specs.List.{FoldsTo, range_with_len}
use Rattle.std.specs.Option.{MatchOption, unwrap_or}
use Rattle.std.specs.declared.ops.Range.{Range}
use Rattle.std.specs.declared.option.Option.{Option}
use Rattle.std.specs.declared.option.Option.TheVariants.{Some, None}
use denote.Param.Members.{Mut}
use denote.Ref.{Bor}
use Rattle.choice.specs.Search.{seek}
use Rattle.choice.proofs.Lowest.{seek_hit, seek_end}
use Rattle.choice.proofs.Parts.{part_fails}
use Rattle.frame_search.specs.Match.{NoneOf}

-- none of the k entries from i on passes, nor does the next
pub none_more : (f : ℕ → Bool) (i k : ℕ) → NoneOf f i k → f (i + k) ≡ false → NoneOf f i (k + 1)
none_more f i k h q j l m = elim (ℕ_discrete j (i + k)) [ yes p ↦ rw p q | no p ↦ h j l (omega arith) ]

-- ---- the library's `find` over a range

module _ (f : ℕ → Bool) (i n : ℕ) (l : i ≤ n) where
  -- what the answer of `find` says is what is sought, the range's end where nothing is found
  first_is : (r : Option ℕ)
      → MatchOption r ((k : ℕ) → i ≤ k → k < n → f k ≡ false) (λ x. (i ≤ x) × (x < n) × (f x ≡ true) × ((k : ℕ) → i ≤ k → k < x → f k ≡ false))
      → unwrap_or r n ≡ seek f i (n - i)
  first_is None h = sym (seek_end f n n (omega arith)) ∙ part_fails f n i n l (omega arith) refl h
  first_is (Some x) h = sym (seek_hit f x n h.1 h.2) ∙ part_fails f n i x h.0 (omega arith) refl h.3

-- a `find` whose closure answers a test finds what is sought
pub find_seeks : {F : Type 0} {g : Mut F (Bor ℕ × Unit {0}) Bool} (f : ℕ → Bool) (s u : Range ℕ) (h : F) (r : Option ℕ) → s.start ≤ s.end
    → (xs : List ℕ) × (j : F) × YieldsThen nat_range_steps s xs r u × FoldsTo (λ p x q. CalledAt g p x false q) h xs j × MatchOption r ⊤ (λ x. (t : F) × CalledAt g j x true t)
    → ((x : ℕ) (b : Bool) (q : F) → CalledAt g h x b q → (q ≡ h) × (b ≡ f x)) → unwrap_or r s.end ≡ seek f s.start (s.end - s.start)
find_seeks f s u h r l d e =
    first_is f s.start s.end l r
    (first_from_Range s u h r (λ k. f k ≡ true) (λ k. f k ≡ false) d (λ x q k. sym (e x true q k).1)
    (λ x q k. let z = e x false q k in (z.0, sym z.1)))

-- in a search from i to n, a `find` among the first m whose closure answers the test finds what the whole search finds, or it goes on behind them
pub find_within : {F : Type 0} {g : Mut F (Bor ℕ × Unit {0}) Bool} (f : ℕ → Bool) (n i m : ℕ) (u : Range ℕ) (h : F) (r : Option ℕ) {found : ℕ} → i + m ≤ n
    → seek f i (n - i) ≡ found
    → (xs : List ℕ) × (j : F) × YieldsThen nat_range_steps (record { start = 0; end = m }) xs r u × FoldsTo (λ p x q. CalledAt g p x false q) h xs j × MatchOption r ⊤ (λ x. (t : F) × CalledAt g j x true t)
    → ((x : ℕ) (b : Bool) (q : F) → CalledAt g h x b q → (q ≡ h) × (b ≡ f (i + x)))
    → MatchOption r (seek f (i + m) (n - (i + m)) ≡ found) (λ k. (k < m) × (i + k ≡ found))
find_within f n i m u h r {found} l s d e =
    by r (first_from_Range _ u h r (λ k. f (i + k) ≡ true) (λ k. f (i + k) ≡ false) d (λ x q k. sym (e x true q k).1)
    (λ x q k. let z = e x false q k in (z.0, sym z.1)))
  where
    -- the test fails at each of the first k
    fails_at : (k : ℕ) → ((j : ℕ) → 0 ≤ j → j < k → f (i + j) ≡ false) → (j : ℕ) → i ≤ j → j < i + k → f j ≡ false
    fails_at k w j a b = let z : i + (j - i) ≡ j = omega arith in rw z at (w (j - i) (omega arith) (omega arith))

    by : (o : Option ℕ)
        → MatchOption o ((k : ℕ) → 0 ≤ k → k < m → f (i + k) ≡ false) (λ x. (0 ≤ x) × (x < m) × (f (i + x) ≡ true) × ((k : ℕ) → 0 ≤ k → k < x → f (i + k) ≡ false))
        → MatchOption o (seek f (i + m) (n - (i + m)) ≡ found) (λ k. (k < m) × (i + k ≡ found))
    by None w = part_fails f n i (i + m) (omega arith) l s (fails_at m w)
    by (Some x) w =
        (w.1, sym (seek_hit f (i + x) n (omega arith) w.2) ∙ part_fails f n i (i + x) (omega arith) (omega arith) s (fails_at x w.3))

-- ---- the library's `find` over the groups of 16 that lie whole between two entries

-- m groups from i on in each of which the test fails
groups_none : (f : ℕ → Bool) (i m : ℕ) → ((k : ℕ) → k < m → NoneOf f (i + 16 * k) 16) → NoneOf f i (16 * m)
groups_none f i m h j l k = h ((j - i) / 16) (omega arith) j (omega arith) (omega arith)

-- a closure says no only of a group in which the test fails: so it does in those before the group that is found, or in all where none is
pub find_group : {F : Type 0} {g : Mut F (Bor ℕ × Unit {0}) Bool} (f : ℕ → Bool) (i n : ℕ) (u : Range ℕ) (h : F) (r : Option ℕ) → i ≤ n
    → (xs : List ℕ) × (j : F) × YieldsThen nat_range_steps (record { start = 0; end = (n - i) / 16 }) xs r u × FoldsTo (λ p x q. CalledAt g p x false q) h xs j × MatchOption r ⊤ (λ x. (t : F) × CalledAt g j x true t)
    → ((x : ℕ) (q : F) → CalledAt g h x false q → (q ≡ h) × (i + 16 * x + 16 ≤ n → NoneOf f (i + 16 * x) 16))
    → MatchOption r (NoneOf f i (16 * ((n - i) / 16))) (λ x. (i + 16 * x + 16 ≤ n) × NoneOf f i (16 * x))
find_group f i n u h r l d e = by r (first_from_Range _ u h r (λ k. ⊤) (λ k. i + 16 * k + 16 ≤ n → NoneOf f (i + 16 * k) 16) d (λ x q k. tt) e)
  where
    by : (o : Option ℕ)
        → MatchOption o ((k : ℕ) → 0 ≤ k → k < (n - i) / 16 → i + 16 * k + 16 ≤ n → NoneOf f (i + 16 * k) 16)
        (λ x. (0 ≤ x) × (x < (n - i) / 16) × ⊤ × ((k : ℕ) → 0 ≤ k → k < x → i + 16 * k + 16 ≤ n → NoneOf f (i + 16 * k) 16))
        → MatchOption o (NoneOf f i (16 * ((n - i) / 16))) (λ x. (i + 16 * x + 16 ≤ n) × NoneOf f i (16 * x))
    by None m = groups_none f i ((n - i) / 16) (λ k s. m k (omega arith) s (omega arith))
    by (Some x) m = (omega arith, groups_none f i x (λ k s. m.3 k (omega arith) s (omega arith)))

-- the same of how many groups are passed over
pub groups_passed : (f : ℕ → Bool) (i n : ℕ) (r : Option ℕ) → i ≤ n
    → MatchOption r (NoneOf f i (16 * ((n - i) / 16))) (λ x. (i + 16 * x + 16 ≤ n) × NoneOf f i (16 * x))
    → (i + 16 * unwrap_or r ((n - i) / 16) ≤ n) × NoneOf f i (16 * unwrap_or r ((n - i) / 16))
groups_passed f i n None l h = (omega arith, h)
groups_passed f i n (Some x) l h = (omega arith, h.1)

-- ---- the library's `fold` over the numbers below n

-- what each call of the closure keeps, the fold keeps
pub fold_keeps : {F C : Type 0} {g : Mut F (C × (ℕ × Unit {0})) C} (P : ℕ → C → Type 0) (n : ℕ) (h : F) (a r : C)
    → ((k : ℕ) (x y : C) (q : F) → Called g h (x, (k, tt)) y q → (q ≡ h) × (P k x → P (k + 1) y)) → P 0 a
    → (xs : List ℕ) × (q : F) × Drains nat_range_steps (record { start = 0; end = n }) xs × FoldsTo {P = F × C} (λ p x q. Called g p.0 (p.1, (x, tt)) q.1 q.0) (h, a) xs (q, r)
    → P n r
fold_keeps {F} {C} {g} P n h a r keeps start ran =
    rw length-range_with_len at (
    fold_over nat_range_steps (λ x. x) g Kept h step _ (range_with_len 0 n) a r (YieldsList-from_range 0 n n refl (omega arith)).runs (λ e. start) ran
    (λ k l. omega (arith, get_or-range_with_len 0 n k 0 (omega (arith, length-range_with_len 0 n))))
    )
  where
    -- of numbers that stand each at its own place, so many are asked
    Kept : List ℕ → C → Type 0
    Kept ys x = ((k : ℕ) → k < length ys → get_or ys k 0 ≡ k) → P (length ys) x

    step : (ys : List ℕ) (x : C) (k : ℕ) (y : C) (q : F) → Kept ys x → Called g h (x, (k, tt)) y q → Kept (ys ++ (k ∷ [])) y × (q ≡ h)
    step ys x k y q kept called =
        let s = keeps k x y q called in
        let m : length (ys ++ (k ∷ [])) ≡ length ys + 1 = simp length-append in (
          λ e.
              let at : k ≡ length ys = sym (get_or_push ys k 0 _ refl) ∙ e (length ys) (omega arith) in
              rw (m, ← at) (s.1 (rw at (kept (λ j l. sym (get_or-append ys (k ∷ []) 0 j l) ∙ e j (omega arith))))),
          s.0,
        )

-- a fold that ors a test fails only where the test fails throughout
pub fold_any : {F : Type 0} {g : Mut F (Bool × (ℕ × Unit {0})) Bool} (f : ℕ → Bool) (n : ℕ) (h : F) (r : Bool)
    → ((k : ℕ) (x y : Bool) (q : F) → Called g h (x, (k, tt)) y q → (q ≡ h) × (y ≡ x || f k))
    → (xs : List ℕ) × (q : F) × Drains nat_range_steps (record { start = 0; end = n }) xs × FoldsTo {P = F × Bool} (λ p x q. Called g p.0 (p.1, (x, tt)) q.1 q.0) (h, false) xs (q, r)
    → r ≡ false → NoneOf f 0 n
fold_any f n h r e ran =
    fold_keeps (λ k any. any ≡ false → NoneOf f 0 k) n h false r
    (λ k x y q t.
    let s = e k x y q t in
    let zero : 0 + k ≡ k = omega arith in
    (s.0, λ kept z. let b = or_parts x (f k) (sym s.1 ∙ z) in none_more f 0 k (kept b.0) (rw zero b.1)))
    (λ z j l m. absurd (omega arith)) ran
