-- The frames that leave with an invocation are freed: what each entry reads afterwards, and that nothing but the frame table changes. By the step at
-- one entry, then by the recursion over the entries done. Assumes nothing.
use Rattle.std.proofs.Common.{ℕ, zero, suc, ◌+◌, ◌≤◌, ◌<◌, ◌≡◌, refl, sym, ap, ◌∙◌, true, false, ◌≢◌, List, add-one, arith, length, leb, eqb, eq-eqb, ne_eqb}
use Rattle.std.proofs.Math.Decide.{dec_lt, ℕ_discrete}
use Rattle.choice.specs.Choice.{pick}
use Rattle.choice.proofs.Tests.{by_test, differ, fails}
use Rattle.snapshot.specs.declared.accounts.Account.{Account}
use Rattle.control.specs.declared.shadow.Region.TheVariants.{Stack}
use Rattle.pages.specs.declared.Page.{Page}
use Rattle.frames.specs.Table.{frame_entry_at, entry_end, frame_entry_of, free_frame_entry, zero_entry, usage_of, holds, claims}
use Rattle.frames.specs.declared.table.FrameEntry.{FrameEntry}
use Rattle.frames.specs.declared.claim.Claim.TheVariants.{Copy}
use Rattle.frames.proofs.Entries.{zero_range, entry_same, entry_other}
use Rattle.frames.proofs.Claims.{holds_copy}
use Rattle.frames.proofs.OnlyTable.{OnlyTable, table_same, table_put, table_then}
use Rattle.frame_search.specs.Match.{NoneOf}
use Rattle.invoke.specs.Invoke.{leaves, free_leaving, freed_below}

-- ---- which entries leave

-- the tag decides of a stack frame's entry
pub leaves_stack : (d : ℕ) (e : FrameEntry) → e.usage ≡ usage_of Stack → leaves d e ≡ leb d e.tag
unfolding leaves
leaves_stack d e h = rw h

-- no other leaves
pub leaves_other : (d : ℕ) (e : FrameEntry) → e.usage ≢ usage_of Stack → leaves d e ≡ false
unfolding leaves
leaves_other d e h = rw (ne_eqb _ _ h)

-- ---- the turns of a loop that looks at entry n

module _ (d : ℕ) (c : List ℕ) (n : ℕ) {x : List ℕ} (h : x ≡ freed_below d c n) where
  -- the entry leaves
  pub turn_freed : leaves d (frame_entry_of x n) ≡ true → free_frame_entry x n ≡ freed_below d c (n + 1)
  unfolding freed_below free_leaving
  turn_freed e = rw (add-one n, ← h, e)

  -- it stays
  pub turn_kept : leaves d (frame_entry_of x n) ≡ false → x ≡ freed_below d c (n + 1)
  unfolding freed_below free_leaving
  turn_kept e = rw (add-one n, ← h, e)

-- a run of k entries from n on, none of the stack: all stay
pub run_kept : (d : ℕ) (c : List ℕ) (n : ℕ) {x : List ℕ} → x ≡ freed_below d c n → (k : ℕ)
    → NoneOf (λ j. eqb (frame_entry_of x j).usage (usage_of Stack)) n k → x ≡ freed_below d c (n + k)
run_kept d c n h zero none = let e : n + zero ≡ n = omega arith in rw e h
run_kept d c n {x} h (suc k) none =
    let e : n + suc k ≡ n + k + 1 = omega arith in
    rw e
    (turn_kept d c (n + k) (run_kept d c n h k (λ j l m. none j l (omega arith)))
    (leaves_other d (frame_entry_of x (n + k)) (λ u. differ _ (eq-eqb _ _ u) (none (n + k) (omega arith) (omega arith)))))

-- ---- the step at entry n

-- what an entry reads afterwards: zeros where it leaves, else what it was
abbrev pub afterwards : ℕ → FrameEntry → FrameEntry
afterwards d e = pick (leaves d e) zero_entry e

module _ (d : ℕ) (c : List ℕ) (n : ℕ) where
  -- nothing but the frame table changes
  step_only : OnlyTable c (free_leaving d c n)
  unfolding free_leaving
  step_only = by_test (leaves d (frame_entry_of c n)) (λ e. rw e (table_put c n zero_entry)) (λ e. rw e (table_same c))

  -- another entry is as it was
  step_other : (i : ℕ) → i ≢ n → frame_entry_of (free_leaving d c n) i ≡ frame_entry_of c i
  unfolding free_leaving
  step_other i h = by_test (leaves d (frame_entry_of c n)) (λ e. rw e (entry_other c n zero_entry i h)) (λ e. rw e)

  -- the entry itself
  step_same : entry_end n ≤ length c → frame_entry_of (free_leaving d c n) n ≡ afterwards d (frame_entry_of c n)
  unfolding free_leaving
  step_same l = by_test (leaves d (frame_entry_of c n)) (λ e. rw e (entry_same c n zero_entry zero_range l)) (λ e. rw e)

-- ---- the first n entries done

module _ (d : ℕ) (c : List ℕ) where
  -- nothing but the frame table changes
  pub freed_only : (n : ℕ) → OnlyTable c (freed_below d c n)
  unfolding freed_below
  freed_only zero = table_same c
  freed_only (suc n) = table_then (freed_only n) (step_only d (freed_below d c n) n)

  -- an entry not done yet is as it was
  freed_ahead : (n i : ℕ) → n ≤ i → frame_entry_of (freed_below d c n) i ≡ frame_entry_of c i
  unfolding freed_below
  freed_ahead zero i h = refl
  freed_ahead (suc n) i h = step_other d (freed_below d c n) n i (omega arith) ∙ freed_ahead n i (omega arith)

  -- an entry that is done
  pub freed_entry : (n i : ℕ) → i < n → frame_entry_at n ≤ length c → frame_entry_of (freed_below d c n) i ≡ afterwards d (frame_entry_of c i)
  unfolding freed_below
  freed_entry zero i h l = absurd (omega arith)
  freed_entry (suc n) i h l =
      elim (ℕ_discrete i n) [
        | yes p ↦ rw p (step_same d (freed_below d c n) n (omega (arith, (freed_only n).size)) ∙ ap (afterwards d) (freed_ahead n n (omega arith)))
        | no p ↦ step_other d (freed_below d c n) n i p ∙ freed_entry n i (omega arith) (omega arith)
      ]

-- ---- the copies

-- a copy does not leave
pub copy_stays : (d : ℕ) (a : Account) (p : Page) (e : FrameEntry) → holds (Copy a p) e ≡ true → leaves d e ≡ false
copy_stays d a p e h = let u = (holds_copy a p e h).usage in leaves_other d e (λ t. omega arith)

-- a copy keeps its frame
pub freed_copy : (d : ℕ) (c : List ℕ) (n : ℕ) (a : Account) (p : Page) (i : ℕ) → frame_entry_at n ≤ length c
    → claims (freed_below d c n) (Copy a p) i ≡ claims c (Copy a p) i
unfolding claims
freed_copy d c n a p i l =
    elim (dec_lt i n) [
      | yes q ↦
          ap (holds (Copy a p)) (freed_entry d c n i q l)
          ∙ by_test (leaves d (frame_entry_of c i))
          (λ e. rw e (sym (fails _ (λ t. differ _ e (copy_stays d a p (frame_entry_of c i) t))))) (λ e. rw e)
      | no q ↦ ap (holds (Copy a p)) (freed_ahead d c n i (omega arith))
    ]
