-- The tests of a resize, in order, what an accepted one has shown, and what a resize leaves. Assumes nothing.
use Rattle.std.proofs.Common.{ℕ, ◌-◌, ◌≤◌, ◌<◌, ◌≡◌, ap, ◌∙◌, true, false, List, arith, length, eqb, leb, lt-ltb, le-ltb, le-leb, leb-true, Result, Ok, Err}
use borrow.Author.Tests.{lt-leb}
use Rattle.layout.specs.Control.{usage_stack, usage_heap}
use Rattle.layout.specs.Page.{page_limit, pool_length}
use Rattle.choice.specs.Choice.{either}
use Rattle.choice.proofs.Tests.{by_test}
use Rattle.refusal.specs.declared.Refusal.{Refusal}
use Rattle.refusal.specs.declared.Refusal.TheVariants.{Invalid, BadRequest, NotPermitted, NoFrame, TooManyPages}
use Rattle.refusal.proofs.Checks.{need_on, need_stop, need_last, need_refused, need_then, need_pass}
use Rattle.snapshot.specs.Header.{accounts}
use Rattle.control.specs.Codes.{region_coded}
use Rattle.control.specs.Control.{frames, control_valid, buffers_valid, current, invocations, pages_of, size_of, set_pages}
use Rattle.control.specs.declared.shadow.Region.{Region}
use Rattle.control.specs.declared.shadow.Region.TheVariants.{Stack, Heap}
use Rattle.control.proofs.Facts.{CurrentFacts, current_facts, buffers_facts}
use Rattle.frames.specs.Table.{free_count}
use Rattle.frames.proofs.OnlyTable.{table_invocations}
use Rattle.regions.proofs.Grown.{grown_only}
use Rattle.regions.proofs.Listed.{listed_within}
use Rattle.regions.proofs.Shrunk.{shrunk_only}
use Rattle.regions.specs.Resize.{Resized, region_of, grown, grow_check, grow_to, all_held, all_leave, shrunk, shrink_check, shrink_control, resize_check, resize_to, resize_of}

-- a code that names a region is that region's
named : (code : ℕ) (r : Region) → region_coded code ≡ Ok r → (either (eqb code usage_stack) (eqb code usage_heap) ≡ true) × (region_of code ≡ r)
unfolding region_coded
named code r e =
    by_test (eqb code usage_stack)
    (λ a. let z : ◌≡◌ {A = Result Region Refusal} (Ok Stack) (Ok r) = rw a at e in let y : Stack ≡ r = cc in (rw a, rw a y))
    (λ a.
    by_test (eqb code usage_heap)
    (λ b. let z : ◌≡◌ {A = Result Region Refusal} (Ok Heap) (Ok r) = rw (a, b) at e in let y : Heap ≡ r = cc in (rw (a, b), rw a y))
    (λ b.
    let z : ◌≡◌ {A = Result Region Refusal} (Err BadRequest) (Ok r) = rw (a, b) at e in
    let y : ◌≡◌ {A = ℕ} 0 1 = cc in absurd (omega arith)))

-- any other is a bad request
unnamed : (code : ℕ) (x : Refusal) → region_coded code ≡ Err x → (either (eqb code usage_stack) (eqb code usage_heap) ≡ false) × (BadRequest ≡ x)
unfolding region_coded
unnamed code x e =
    by_test (eqb code usage_stack)
    (λ a.
    let z : ◌≡◌ {A = Result Region Refusal} (Ok Stack) (Err x) = rw a at e in
    let y : ◌≡◌ {A = ℕ} 0 1 = cc in absurd (omega arith))
    (λ a.
    by_test (eqb code usage_heap)
    (λ b.
    let z : ◌≡◌ {A = Result Region Refusal} (Ok Heap) (Err x) = rw (a, b) at e in
    let y : ◌≡◌ {A = ℕ} 0 1 = cc in absurd (omega arith))
    (λ b. let z : ◌≡◌ {A = Result Region Refusal} (Err BadRequest) (Err x) = rw (a, b) at e in let y : BadRequest ≡ x = cc in (rw (a, b), y)))

-- what valid buffers have shown
pub record ResizeFacts (c p : List ℕ) : Type 0 where
  pub control : control_valid c ≡ true
  pub pool : length p ≡ pool_length (frames c)
  pub few : (r : Region) → pages_of (current c) r ≤ page_limit

-- each region of the current invocation has at most the most pages
few_pages : {c : List ℕ} {n : ℕ} → CurrentFacts c n → (r : Region) → pages_of (current c) r ≤ page_limit
few_pages f Stack = f.few_stack
few_pages f Heap = f.few_heap

-- a refusal, and all as it was
abbrev pub unchanged : Refusal → List ℕ → List ℕ → Resized
unchanged x c p = record { answer = Err x; after = record { control = c; pool = p } }

module _ (s c p : List ℕ) (code n : ℕ) where
  -- the first test that fails is the refusal
  refused : (x : Refusal) → resize_check s c p code n ≡ Err x → resize_of s c p code n ≡ unchanged x c p
  unfolding resize_of
  refused x t = rw t

  -- the buffers are not valid
  pub resize_invalid : buffers_valid s c p ≡ false → resize_of s c p code n ≡ unchanged Invalid c p
  unfolding resize_check
  resize_invalid h = refused _ (need_stop _ _ _ h)

  module _ (ok : buffers_valid s c p ≡ true) where
    -- the facts by name
    pub resize_facts : ResizeFacts c p
    resize_facts =
        let f = buffers_facts s c p ok in
        let g : CurrentFacts c (accounts s) = current_facts c (accounts s) f.current in
        record { control = f.control; pool = f.pool; few = few_pages g }

    -- the code is no region's
    pub resize_unknown : (x : Refusal) → region_coded code ≡ Err x → resize_of s c p code n ≡ unchanged x c p
    unfolding resize_check
    resize_unknown x e = let u = unnamed code x e in refused x (need_on _ _ _ ok ∙ need_stop _ _ _ u.0 ∙ ap Err u.1)

    module _ (r : Region) (e : region_coded code ≡ Ok r) where
      -- the pages are too many
      pub resize_large : page_limit < n → resize_of s c p code n ≡ unchanged TooManyPages c p
      unfolding resize_check
      resize_large h = refused _ (need_on _ _ _ ok ∙ need_on _ _ _ (named code r e).0 ∙ need_refused _ _ (lt-leb n page_limit h))

      -- they are not: each test passes
      pub resize_passes : n ≤ page_limit → resize_check s c p code n ≡ Ok tt
      unfolding resize_check
      resize_passes h = need_on _ _ _ ok ∙ need_on _ _ _ (named code r e).0 ∙ need_last _ _ (le-leb n page_limit h)

      -- and the region is resized
      pub resize_accepted : n ≤ page_limit → resize_of s c p code n ≡ resize_to c p r n
      unfolding resize_of
      resize_accepted h = rw (resize_passes h, (named code r e).1)

  -- a resize that passes asks for at most the most pages
  pub resize_few : resize_check s c p code n ≡ Ok tt → n ≤ page_limit
  unfolding resize_check
  resize_few pass = leb-true n page_limit (need_pass _ _ (need_then _ _ _ (need_then _ _ _ pass).1).1)

-- so many more pages are asked for
module _ (c p : List ℕ) (r : Region) (n : ℕ) where
  -- too few frames are free
  pub grow_refused : leb (n - size_of c r) (free_count c) ≡ false → grow_to c p r n ≡ unchanged NoFrame c p
  unfolding grow_to grow_check
  grow_refused h = rw (need_refused _ NoFrame h)

  -- enough are: the pages are taken, and the size is written
  pub grow_granted : leb (n - size_of c r) (free_count c) ≡ true
      → grow_to c p r n ≡ record {
        answer = Ok tt;
        after =
            record {
              control = set_pages (grown r (size_of c r) c p (n - size_of c r)).control (invocations c) r n;
              pool = (grown r (size_of c r) c p (n - size_of c r)).pool;
            };
      }
  unfolding grow_to grow_check
  grow_granted h = rw (need_last _ NoFrame h, table_invocations (grown_only r (size_of c r) c p (n - size_of c r)))

pub ruleset grow_steps = (grow_refused, grow_granted)

-- so few pages are asked for
module _ (c : List ℕ) (r : Region) (n : ℕ) where
  -- a page that goes has no frame
  pub shrink_unheld : all_held c r n (size_of c r - n) ≡ false → shrink_check c r n ≡ Err Invalid
  unfolding shrink_check
  shrink_unheld h = need_stop _ _ _ h

  module _ (held : all_held c r n (size_of c r - n) ≡ true) where
    -- a frame has a tag below the depth
    pub shrink_tagged : all_leave c r n (size_of c r - n) ≡ false → shrink_check c r n ≡ Err NotPermitted
    unfolding shrink_check
    shrink_tagged h = need_on _ _ _ held ∙ need_refused _ _ h

    -- neither
    pub shrink_passes : all_leave c r n (size_of c r - n) ≡ true → shrink_check c r n ≡ Ok tt
    unfolding shrink_check
    shrink_passes h = need_on _ _ _ held ∙ need_last _ _ h

  -- a refusal leaves all as it was
  pub shrink_refused : (x : Refusal) → shrink_check c r n ≡ Err x → shrink_control c r n ≡ c
  unfolding shrink_control
  shrink_refused x e = rw e

  -- otherwise the frames are freed, and the size is written
  pub shrink_granted : shrink_check c r n ≡ Ok tt → shrink_control c r n ≡ set_pages (shrunk c r n (size_of c r - n)) (invocations c) r n
  unfolding shrink_control
  shrink_granted e = rw (e, table_invocations (shrunk_only c r n (size_of c r - n)))

pub ruleset shrink_steps = (shrink_unheld, shrink_tagged, shrink_passes, shrink_refused, shrink_granted, listed_within)

-- a size against the one that is asked for
module _ (c p : List ℕ) (r : Region) (n : ℕ) where
  -- it is below: the region grows
  pub resize_grows : pages_of (current c) r < n → resize_to c p r n ≡ grow_to c p r n
  unfolding resize_to
  resize_grows l = rw (lt-ltb _ _ l)

  -- it is above: it shrinks, and the pool stays
  pub resize_shrinks : n < pages_of (current c) r
      → resize_to c p r n ≡ record { answer = shrink_check c r n; after = record { control = shrink_control c r n; pool = p } }
  unfolding resize_to
  resize_shrinks l = rw (le-ltb (pages_of (current c) r) n (omega arith), lt-ltb _ _ l)

  -- it is the same: all stays
  pub resize_stays : pages_of (current c) r ≡ n → resize_to c p r n ≡ record { answer = Ok tt; after = record { control = c; pool = p } }
  unfolding resize_to
  resize_stays e = rw (le-ltb (pages_of (current c) r) n (omega arith), le-ltb n (pages_of (current c) r) (omega arith))

-- what is done
pub ruleset resize_steps = (resize_grows, resize_shrinks, resize_stays)

-- the outcome
pub ruleset resize_outcomes = (resize_invalid, resize_facts, resize_unknown, resize_large, resize_accepted)
