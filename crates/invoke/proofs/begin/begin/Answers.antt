-- `invoke::begin::begin` meets its contract: a check that stops is the answer and leaves both buffers; behind one that passes the block is
-- fresh, and its stack is resized, which is never refused. Assumes nothing.
use Rattle.std.proofs.Common.{◌≡◌, true, ◌≤◌, length, ℕ, List, refl, sym, ◌∙◌, arith, rules}
use Rattle.invoke.specs.Invoke.{begin_check, fresh, begin_control, begin_pool, begun}
use Rattle.invoke.proofs.begin.begin.Goals as goal
use Rattle.layout.specs.Page.{page_limit, pool_length}
use Rattle.refusal.specs.declared.Refusal.{Refusal}
use Rattle.control.specs.Control.{frames, control_valid, size_of}
use Rattle.control.specs.declared.shadow.Region.TheVariants.{Stack}
use Rattle.regions.specs.Resize.{resize_to}
use Rattle.regions.proofs.Gives.{Gives}
use Rattle.invoke.specs.declared.begin.Start.{Start}
use Rattle.invoke.proofs.Accepted.{BeginFacts, begin_facts, RoomFacts, room_facts}
use Rattle.invoke.proofs.Fresh.{fresh-frames, fresh_valid, fresh_size}
use Rattle.invoke.proofs.Begun.{start_fits, begun_passes}
use Rattle.std.specs.Prelude.{Err, Ok}
use Rattle.refusal.specs.Checks.{Check}

-- what begin gives: its answer and both buffers
abbrev Begins : List ℕ → List ℕ → List ℕ → Start → Check → List ℕ → List ℕ → Type 0
Begins s c p x k c' p' = (k ≡ begin_check s (length c) (length p) x) × ((c' ≡ begin_control s c p x) × (p' ≡ begin_pool s c p x))

module _ (s c p : List ℕ) (x : Start) {k : Check} (e : k ≡ begin_check s (length c) (length p) x) where
  -- a refusal, and both buffers as they were
  refused : {r : Refusal} (y : Check) → k ≡ Err r → y ≡ Err r → Begins s c p x y c p
  unfolding begin_control begin_pool
  refused y f h = rw (← e, f) (h, (refl, refl))

  module _ (f : k ≡ Ok tt) {c₁ : List ℕ} (h : c₁ ≡ fresh (length c) x) where
    -- the check passed
    passed : begin_check s (length c) (length p) x ≡ Ok tt
    passed = sym e ∙ f

    -- the stack of a fresh block may be resized
    resizable : ((control_valid c₁ ≡ true) × (length p ≡ pool_length (frames c₁))) × ((size_of c₁ Stack ≤ page_limit) × (x.pages ≤ page_limit))
    resizable =
        let b : BeginFacts s (length c) (length p) x = begin_facts s (length c) (length p) x passed in
        let room : RoomFacts (length c) (length p) = room_facts (length c) (length p) b.room in
        let fits = start_fits s c p x passed in
        rw h (
          (fresh_valid (length c) (length p) x b.room fits, omega (arith, room.pool_size, fresh-frames (length c) (length p) x b.room fits)),
          (omega (arith, fresh_size (length c) (length p) x b.room fits Stack), omega (arith, b.few_pages)),
        )

    -- done, and both buffers as the resize leaves them
    begins : {y : Check} {c₂ p₂ : List ℕ} → Gives (resize_to c₁ p Stack x.pages) y c₂ p₂ → Begins s c p x y c₂ p₂
    unfolding begin_control begin_pool begun
    begins g =
        let g' = rw h at g in
        rw passed (g'.0 ∙ begun_passes s c p x passed, (g'.1.0, g'.1.1))

pub returns-in_err-begin_check : goal.returns-in_err-begin_check
returns-in_err-begin_check c =
    let g = refused _ _ _ _ c.begin_check.ensures c.from_residual.result c.in_err-begin_check.was (search rules) in
    record { value = g.0; c_after = g.1.0; pool_after = g.1.1 }

pub write_fresh-requires : goal.write_fresh-requires
write_fresh-requires c =
    let r = room_facts _ _ (begin_facts _ _ _ _ (sym c.begin_check.ensures ∙ c.in_ok-begin_check.was)).room in
    (r.header, r.few_frames)

pub resize_to-requires : goal.resize_to-requires
resize_to-requires c =
    let a = c.args in
    let g = resizable a.s.now a.c.now a.pool.now a.start c.begin_check.ensures c.in_ok-begin_check.was c.write_fresh.ensures in
    record { c_value = g.0; r_bound = g.1 }

pub returns : goal.returns
returns c =
    let g = begins _ _ _ _ c.begin_check.ensures c.in_ok-begin_check.was c.write_fresh.ensures (c.resize_to.ensures.value, (c.resize_to.ensures.c_after, c.resize_to.ensures.pool_after)) in
    record { value = g.0; c_after = g.1.0; pool_after = g.1.1 }
