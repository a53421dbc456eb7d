-- What a valid request gives: each test that passed is a fact about its numbers. Assumes nothing.
use Rattle.std.proofs.Common.{ℕ, ◌+◌, ◌-◌, ◌%◌, ◌≤◌, ◌<◌, ◌≡◌, true, arith, leb-true, le-leb, leb, bit_and}
use Rattle.std.proofs.Math.Decide.{dec_lt}
use borrow.Author.Tests.{lt-leb}
use lib.Bits.{and_mask}
use Rattle.layout.specs.Page.{page_size}
use Rattle.words.specs.Words.{is_size}
use Rattle.words.proofs.Sizes.{by_size, size_short}
use Rattle.choice.specs.Choice.{pick, both}
use Rattle.choice.proofs.Tests.{both_true}
use Rattle.segments.specs.Kinds.{kind_store_span, is_span, request_valid, aligned, within}

-- ---- a valid request

module _ (kind n : ℕ) (valid : request_valid kind n ≡ true) where
  tests : (leb kind kind_store_span ≡ true) × (pick (is_span kind) (both (leb 1 n) (leb n page_size)) (is_size n) ≡ true)
  unfolding request_valid
  tests = both_true (leb kind kind_store_span) (pick (is_span kind) (both (leb 1 n) (leb n page_size)) (is_size n)) valid

  -- a load, a store or a fetch has a size
  pub request_size : kind < 3 → is_size n ≡ true
  request_size h = rw (lt-leb 3 kind h) at tests.1

  -- a span has 1 to 4,096
  pub request_span : 3 ≤ kind → (1 ≤ n) × (n ≤ page_size)
  request_span h =
      let b = both_true (leb 1 n) (leb n page_size) (rw (le-leb 3 kind h) at tests.1) in
      (leb-true 1 n b.0, leb-true n page_size b.1)

  -- every request has 1 to 4,096
  pub request_length : (1 ≤ n) × (n ≤ page_size)
  request_length =
      elim (dec_lt kind 3) [ yes h ↦ omega (arith, size_short n (request_size h)) | no h ↦ request_span (omega arith) ]

-- ---- alignment and pages

-- the bits below a size are the remainder
pub low_bits : (x n : ℕ) → is_size n ≡ true → bit_and x (n - 1) ≡ x % n
low_bits x n h =
    by_size n h (λ e. rw e (and_mask x 0)) (λ e. rw e (and_mask x 1)) (λ e. rw e (and_mask x 2)) (λ e. rw e (and_mask x 3))

-- a span is aligned
pub span_aligned : (kind offset n : ℕ) → 3 ≤ kind → aligned kind offset n ≡ true
unfolding aligned
span_aligned kind offset n h = rw (le-leb 3 kind h)

module _ (offset n : ℕ) where
  -- bytes within one page end at its end at the latest
  pub within-length : within offset n ≡ true → offset % page_size + n ≤ page_size
  unfolding within
  within-length e = leb-true (offset % page_size + n) page_size e
