-- Both regions stay right over a resize: it grows, shrinks or changes nothing, and a refusal changes nothing.
-- Assumes nothing.
use Rattle.std.proofs.Common.{ℕ, ◌≤◌, ◌≡◌, refl, true, List, arith, length, ltb, leb-true, ltb-true}
use Rattle.layout.specs.Page.{page_limit, pool_length}
use Rattle.choice.proofs.Tests.{by_test}
use Rattle.refusal.specs.Checks.{or_keep, Check}
use Rattle.refusal.proofs.Checks.{need_then, need_pass}
use Rattle.control.specs.Control.{frames, control_valid, size_of}
use Rattle.control.specs.declared.shadow.Region.{Region}
use Rattle.control.proofs.Facts.{BuffersFacts, buffers_facts}
use Rattle.regions.specs.Resize.{grow_check, shrink_check, grow_to, shrink_control, resize_to, resize_check, region_of}
use Rattle.lifecycle.specs.Regions.{Rights}
use Rattle.lifecycle.proofs.Growing.{grown_right}
use Rattle.lifecycle.proofs.Shrinking.{shrunk_right}
use Rattle.std.specs.Prelude.{Err, Ok}

-- what holds before a call, and after it where it is accepted, holds
pub or_right : (q : Check) (old new : List ℕ) → (q ≡ Ok tt → Rights new) → Rights old → Rights (or_keep q old new)
or_right (Ok tt) old new f h = f refl
or_right (Err r) old new f h = h

-- both regions stay right where one is resized to n pages
pub resized_to_right : (c p : List ℕ) (r : Region) (n : ℕ) → control_valid c ≡ true → length p ≡ pool_length (frames c) → n ≤ page_limit → Rights c
    → Rights (resize_to c p r n).after.control
unfolding resize_to grow_to shrink_control
resized_to_right c p r n valid pool most h =
    by_test (ltb (size_of c r) n)
    (λ e.
    rw e
    (or_right (grow_check c r n) c _ (λ t. grown_right c p r n valid pool (omega (arith, ltb-true (size_of c r) n e)) most t h) h))
    (λ e.
    rw e
    (by_test (ltb n (size_of c r))
    (λ d. rw d (or_right (shrink_check c r n) c _ (λ t. shrunk_right c r n valid (ltb-true n (size_of c r) d) t h) h))
    (λ d. rw d h)))

-- and over a resize whose request is valid
pub resized_right : (s c p : List ℕ) (code n : ℕ) → resize_check s c p code n ≡ Ok tt → Rights c
    → Rights (resize_to c p (region_of code) n).after.control
unfolding resize_check
resized_right s c p code n accepted h =
    let t = need_then _ _ _ accepted in
    let b : BuffersFacts s c p = buffers_facts s c p t.0 in
    resized_to_right c p (region_of code) n b.control b.pool (leb-true _ _ (need_pass _ _ (need_then _ _ _ t.1).1)) h
