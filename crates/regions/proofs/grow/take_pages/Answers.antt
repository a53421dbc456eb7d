-- `regions::grow::take_pages` meets its contract. The loop's invariant: the pages before k are taken, and no entry before `at` is free.
-- So the lowest free entry from `at` on is the lowest of all, which the next page takes. Assumes nothing.
use Rattle.std.proofs.Common.{ℕ, zero, suc, ◌+◌, ◌*◌, ◌-◌, ◌≤◌, ◌<◌, ◌≡◌, sym, ap, ◌∙◌, Bool, true, false, List, arith, length}
use Rattle.layout.specs.Page.{page_size, page_limit, pool_length}
use Rattle.words.specs.Words.{splice, zeros}
use Rattle.choice.specs.Search.{seek, lowest}
use Rattle.choice.proofs.Lowest.{seek_miss}
use Rattle.control.specs.Control.{frames, depth, control_valid}
use Rattle.control.specs.declared.shadow.Region.{Region}
use Rattle.control.proofs.Facts.{control_facts}
use Rattle.pages.specs.declared.Page.{Page}
use Rattle.frames.specs.Table.{entry_end, put_frame_entry, is_free, free_count}
use Rattle.frames.proofs.OnlyTable.{table_frames, table_invocations}
use Rattle.frames.proofs.Claims.{free_other}
use Rattle.frame_search.proofs.Loops.{search_start}
use Rattle.regions.specs.Resize.{page_at, region_entry, grown}
use Rattle.regions.proofs.Grown.{next_free, Took, grown_only, grown_pool, grown_took}
use Rattle.regions.proofs.grow.take_pages.Goals as goal
use Rattle.regions.proofs.grow.take_pages.Invariants.{Turn}

-- where no index before `at` passes, the search from there on finds what the whole search finds
seek_from : (f : ℕ → Bool) (n at : ℕ) → at ≤ n → ((j : ℕ) → j < at → f j ≡ false) → seek f at (n - at) ≡ lowest f n
seek_from f n zero l h = search_start f n
seek_from f n (suc a) l h =
    let e : suc a ≡ a + 1 = omega arith in
    rw e (seek_miss f a n (omega arith) (h a (omega arith)) ∙ seek_from f n a (omega arith) (λ j b. h j (omega arith)))

-- at the start none is
start : (r : Region) (size : ℕ) (c p : List ℕ) → Turn r size c p (size - size) 0 c p
unfolding grown
start r size c p =
    let e : size - size ≡ 0 = omega arith in
    record { control = rw e; pool = rw e; passed = λ j l. absurd (omega arith) }

module _ {r : Region} {size : ℕ} {c₀ p₀ : List ℕ} {n at : ℕ} {c p : List ℕ} (t : Turn r size c₀ p₀ n at c p) where
  -- the control block keeps its length
  same_control : length c ≡ length c₀
  same_control = rw t.control (grown_only r size c₀ p₀ n).size

  -- so does the pool
  same_pool : length p ≡ length p₀
  same_pool = rw t.pool (grown_pool r size c₀ p₀ n)

-- a turn, in which entry i of f is found
record Step (r : Region) (size k pages : ℕ) (c₀ p₀ : List ℕ) (f at : ℕ) (c p : List ℕ) (i : ℕ) : Type 0 where
  taken : Turn r size c₀ p₀ (k - size) at c p
  valid : control_valid c₀ ≡ true
  long : length p₀ ≡ pool_length (frames c₀)
  few : pages ≤ page_limit
  enough : pages - size ≤ free_count c₀
  from : size ≤ k
  to : k < pages
  count : f ≡ frames c₀
  within : at ≤ f
  found : i ≡ seek (is_free c) at (f - at)

-- it, from its parts
step : {r : Region} {size k pages : ℕ} {c₀ p₀ : List ℕ} {f at : ℕ} {c p : List ℕ} {i : ℕ} → Turn r size c₀ p₀ (k - size) at c p → control_valid c₀ ≡ true
    → length p₀ ≡ pool_length (frames c₀) → pages ≤ page_limit → pages - size ≤ free_count c₀ → size ≤ k → k < pages → f ≡ frames c₀ → at ≤ f
    → i ≡ seek (is_free c) at (f - at) → Step r size k pages c₀ p₀ f at c p i
step t v l m e a b n w d =
    record { taken = t; valid = v; long = l; few = m; enough = e; from = a; to = b; count = n; within = w; found = d }

module _ {r : Region} {size k pages : ℕ} {c₀ p₀ : List ℕ} {f at : ℕ} {c p : List ℕ} {i : ℕ} (s : Step r size k pages c₀ p₀ f at c p i) where
  -- the page that is taken
  took : Took r (page_at r k) (grown r size c₀ p₀ (k - size)) (grown r size c₀ p₀ (k + 1 - size))
  took =
      let e₁ : suc (k - size) ≡ k + 1 - size = omega arith in
      let e₂ : size + (k - size) ≡ k = omega arith in
      rw (e₁, e₂) at (grown_took r size c₀ p₀ s.valid (k - size) (omega arith) (omega arith))

  -- the frames are as many as before
  counted : frames (grown r size c₀ p₀ (k - size)).control ≡ f
  counted = table_frames (grown_only r size c₀ p₀ (k - size)) ∙ sym s.count

  -- the entry found is that of its frame
  frame_is : i ≡ next_free (grown r size c₀ p₀ (k - size))
  frame_is =
      s.found
      ∙ seek_from (is_free c) f at s.within s.taken.passed
      ∙ ap (λ (x : List ℕ). lowest (is_free x) f) s.taken.control
      ∙ ap (λ (n : ℕ). lowest (is_free (grown r size c₀ p₀ (k - size)).control) n) (sym counted)

  -- it is in the table and in the pool
  room : (i < f) × (entry_end i ≤ length c) × (page_size * i + page_size ≤ length p)
  room =
      let b : i < f = omega (arith, frame_is, took.first.below, counted) in
      let v = control_facts c₀ s.valid in
      let x = same_control s.taken in
      let y = same_pool s.taken in
      (omega arith, omega arith, omega arith)

  -- with it one page more is taken
  turn : (c' p' : List ℕ) (d : ℕ) (q : Page) → d ≡ depth c₀ → q ≡ page_at r k → c' ≡ put_frame_entry c i (region_entry d r q)
      → p' ≡ splice p (page_size * i) (zeros page_size) → Turn r size c₀ p₀ (k + 1 - size) i c' p'
  turn c' p' d q ed eq ec ep =
      let e : i ≡ next_free (grown r size c₀ p₀ (k - size)) = frame_is in
      let v : depth (grown r size c₀ p₀ (k - size)).control ≡ depth c₀ = ap (λ (x : ℕ). x - 1) (table_invocations (grown_only r size c₀ p₀ (k - size))) in
      record {
        control = ec ∙ rw (s.taken.control, e, ed, ← v, eq) (sym took.control);
        pool = ep ∙ rw (s.taken.pool, e) (sym took.pool);
        passed = λ j b.
            rw ec (free_other c i _ j (omega arith) ∙ ap (λ (x : List ℕ). is_free x j) s.taken.control ∙ took.first.before j (omega arith));
      }

pub loop-k-init : goal.loop-k-init
loop-k-init c = (omega arith, start _ _ _ _)

pub next_free-at-requires : goal.next_free-at-requires
next_free-at-requires c =
    let v = control_facts _ c.requires.c_value.0 in
    let z = same_control c.loop-k.invariant.1 in
    omega arith

pub overflow_cast-at : goal.overflow_cast-at
overflow_cast-at c =
    let v = control_facts _ c.requires.c_value.0 in
    let x =
    room
    (step c.loop-k.invariant.1 c.requires.c_value.0 c.requires.c_value.1 c.requires.size_le_pages.1 c.requires.size_le_pages.2 c.loop-k.auto.k
    c.loop-k-test.true c.frame_count-frames.ensures.0 c.loop-k.invariant.0 c.next_free-at.ensures) in
    omega arith

pub take_page-requires : goal.take_page-requires
take_page-requires c =
    let x =
    room
    (step c.loop-k.invariant.1 c.requires.c_value.0 c.requires.c_value.1 c.requires.size_le_pages.1 c.requires.size_le_pages.2 c.loop-k.auto.k
    c.loop-k-test.true c.frame_count-frames.ensures.0 c.loop-k.invariant.0 c.next_free-at.ensures) in
    (x.1, x.2)

pub loop-k-preserved : goal.loop-k-preserved
loop-k-preserved c =
    let s =
    step c.loop-k.invariant.1 c.requires.c_value.0 c.requires.c_value.1 c.requires.size_le_pages.1 c.requires.size_le_pages.2 c.loop-k.auto.k
    c.loop-k-test.true c.frame_count-frames.ensures.0 c.loop-k.invariant.0 c.next_free-at.ensures in
    let x = room s in (
      omega arith,
      turn s _ _ _ _ (ap (λ (d : ℕ). d - 1) c.invocation_count.ensures.0) c.page_at.ensures c.take_page.ensures.c_after c.take_page.ensures.pool_after,
    )
