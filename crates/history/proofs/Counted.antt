-- There are as many touched pages as copies: each copy claims one page, and each touched page is claimed once. Assumes nothing.
use mathlib.Core.Path.{◌≡◌, refl, sym, ◌∙◌, ap}
use mathlib.Core.Bool.{Bool, true, false}
use mathlib.Core.List.{List}
use Prim.Native.Nat.{ℕ, zero, suc, ◌+◌, ◌/◌, ◌%◌, ◌≤◌, ◌<◌}
use native.Mathlib.Nat.{zero-add}
use native.Mathlib.Decide.{ℕ_discrete}
use native.Mathlib.Omega.{arith}
use lib.ListN.{length}
use borrow.Author.Tests.{eq-eqb}
use Rattle.layout.specs.Control.{frame_limit}
use Rattle.choice.proofs.Picked.{length-picked}
use Rattle.choice.specs.Choice.{either}
use Rattle.choice.specs.Search.{count}
use Rattle.choice.proofs.Tests.{by_test, differ}
use Rattle.choice.proofs.Counting.{count_none, count_ext, count_more, count-le}
use Rattle.control.specs.Control.{frames}
use Rattle.control.proofs.Facts.{buffers_facts, control_facts}
use Rattle.control.specs.Buffers.{Buffers}
use Rattle.frames.specs.Table.{frame_entry_of, claims, is_copy}
use Rattle.frames.proofs.Claims.{IsCopy, claims_copy}
use Rattle.changes.specs.Keys.{key_of, key_account, key_page, key_claim, key_limit, is_copied}
use Rattle.history.specs.Replay.{Replay, touched_keys}
use Rattle.history.proofs.Good.{Good}
use Rattle.history.proofs.Listing.{Framed, copied_framed, claimed_copied, own_claim}

-- ---- a test that passes somewhere

-- the test passes at some number below n
some : (ℕ → Bool) → ℕ → Bool
some f zero = false
some f (suc n) = either (f n) (some f n)

-- where it passes at one, it passes somewhere
some_true : (f : ℕ → Bool) (n j : ℕ) → j < n → f j ≡ true → some f n ≡ true
unfolding some
some_true f zero j l e = absurd (omega arith)
some_true f (suc n) j l e =
    elim (ℕ_discrete j n) [
      | yes z ↦ rw (← z, e)
      | no z ↦ by_test (f n) (λ t. rw t) (λ t. rw t (some_true f n j (omega arith) e))
    ]

-- where it fails at each, it passes nowhere
some_false : (f : ℕ → Bool) (n : ℕ) → ((j : ℕ) → j < n → f j ≡ false) → some f n ≡ false
unfolding some
some_false f zero h = refl
some_false f (suc n) h = rw (h n (omega arith)) (some_false f n (λ j l. h j (omega arith)))

-- ---- as many keys as claimants

-- t k i says that number i claims key k; those of the numbers that claim one are `is`, and claim `key`
module _ (t : ℕ → ℕ → Bool) (is : ℕ → Bool) (key : ℕ → ℕ) (m size : ℕ)
    (own : (i : ℕ) → i < size → is i ≡ true → (key i < m) × (t (key i) i ≡ true))
    (only : (k i : ℕ) → t k i ≡ true → (is i ≡ true) × (key i ≡ k))
    (once : (k i j : ℕ) → i < size → j < size → t k i ≡ true → t k j ≡ true → i ≡ j) where
  -- a number claims no other key
  no_other : (k i : ℕ) → (is i ≡ true → key i ≡ k → ⊥) → t k i ≡ false
  no_other k i d = by_test (t k i) (λ e. let o = only k i e in absurd (d o.0 o.1)) (λ e. e)

  -- as many keys are claimed by the first n numbers as of them claim one
  matched : (n : ℕ) → n ≤ size → count (λ k. some (t k) n) m ≡ count is n
  unfolding count some
  matched zero h = count_none (λ k. false) m (λ k l. refl)
  matched (suc n) h =
      by_test (is n)
      (λ e.
      let o = own n (omega arith) e in
      rw e
      (count_more (λ k. some (t k) n) (λ k. some (t k) (suc n)) m (key n) o.0
      (some_false (t (key n)) n
      (λ j l. by_test (t (key n) j) (λ d. absurd (omega (arith, once (key n) j n (omega arith) (omega arith) d o.1))) (λ d. d)))
      (rw o.1) (λ k d. rw (no_other k n (λ _ z. d (sym z))))
      ∙ ap suc (matched n (omega arith))))
      (λ e.
      rw e
      (count_ext (λ k. some (t k) (suc n)) (λ k. some (t k) n) m (λ k l. rw (no_other k n (λ i _. differ (is n) i e)))
      ∙ matched n (omega arith)))

-- ---- the touched pages

-- the key of the page of entry i
abbrev entry_key : List ℕ → ℕ → ℕ
entry_key c i = key_of (frame_entry_of c i).account.0 (frame_entry_of c i).page.0

module _ (s : List ℕ) (b : Buffers) (r : Replay) (g : Good s b r) where
  -- a copy claims the page of its key
  claims_key : (i : ℕ) → i < frames b.control → is_copy b.control i ≡ true
      → (entry_key b.control i < key_limit) × (claims b.control (key_claim (entry_key b.control i)) i ≡ true)
  claims_key i l h =
      let e = g.ranged i l in
      let u : entry_key b.control i / 65536 ≡ (frame_entry_of b.control i).account.0 = omega arith in
      let v : entry_key b.control i % 65536 ≡ (frame_entry_of b.control i).page.0 = omega arith in
      (omega arith, rw (u, v) (own_claim b.control i h))

  -- and no other
  claims_only : (k i : ℕ) → claims b.control (key_claim k) i ≡ true → (is_copy b.control i ≡ true) × (entry_key b.control i ≡ k)
  claims_only k i h =
      let f : IsCopy (key_account k) (key_page k) (frame_entry_of b.control i) = claims_copy b.control i (key_account k) (key_page k) h in
      (eq-eqb _ _ f.usage, omega arith)

  -- a page is touched where some frame claims it
  touched_some : (k : ℕ) → k < key_limit → r.touched k ≡ some (claims b.control (key_claim k)) (frames b.control)
  touched_some k l =
      g.claimed k l
      ∙ by_test (is_copied b.control k)
      (λ e. let f : Framed b.control k = copied_framed b.control k e in e ∙ sym (some_true _ _ f.frame f.below f.claimed))
      (λ e.
      e
      ∙ sym
      (some_false _ _
      (λ j m. by_test (claims b.control (key_claim k) j) (λ d. absurd (differ _ (claimed_copied b.control k j m d) e)) (λ d. d))))

  -- as many pages are touched as there are copies
  pub touched_count : length (touched_keys r) ≡ count (is_copy b.control) (frames b.control)
  unfolding touched_keys
  touched_count =
      length-picked r.touched 0 key_limit
      ∙ count_ext (λ k. r.touched (0 + k)) (λ k. some (claims b.control (key_claim k)) (frames b.control)) key_limit
      (λ k l. rw zero-add (touched_some k l))
      ∙ matched (λ k i. claims b.control (key_claim k) i) (is_copy b.control) (entry_key b.control) key_limit (frames b.control)
      claims_key claims_only (λ k. g.once (k / 65536) (k % 65536)) (frames b.control) (omega arith)

  -- at most as many as there are frames
  pub touched_few : length (touched_keys r) ≤ frame_limit
  touched_few =
      omega (
        arith,
        touched_count,
        count-le (is_copy b.control) (frames b.control),
        control_facts b.control (buffers_facts s b.control b.pool g.buffers).control,
      )
