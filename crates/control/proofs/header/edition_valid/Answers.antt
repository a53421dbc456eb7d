use Rattle.std.proofs.Common.{◌≡◌, ◌<◌, ℕ, ◌+◌, ◌*◌, ◌∙◌, arith, eqb, eq-eqb, ne_eqb}
use Rattle.choice.specs.Choice.{both, either}
use Rattle.control.specs.Control.{edition_known}
use Rattle.control.proofs.header.edition_valid.Goals as goal
use Rattle.std.proofs.Math.Decide.{ℕ_discrete}
use Rattle.words.proofs.Word.{word_append, word_fits}
use Rattle.layout.specs.Control.{older, newer}
use Rattle.choice.proofs.Tests.{by_test}

-- `control::header::edition_valid` meets its contract: a number below 2^32 with 2^32 times another above it is an edition exactly where the first
-- is one and the other is 0. Assumes nothing.
-- as one number
joined : (e z : ℕ) → e < 4294967296 → edition_known (e + 4294967296 * z) ≡ both (edition_known e) (eqb z 0)
unfolding edition_known
joined e z h =
    elim (ℕ_discrete z 0) [
      | yes q ↦
          let same : e + 4294967296 * z ≡ e = omega arith in
          rw (eq-eqb z 0 q, same) (by_test (either (eqb e older) (eqb e newer)) (λ t. rw t) (λ t. rw t))
      | no q ↦ rw (ne_eqb z 0 q, ne_eqb (e + 4294967296 * z) older (λ x. omega arith), ne_eqb (e + 4294967296 * z) newer (λ x. omega arith)) (by_test (either (eqb e older) (eqb e newer)) (λ t. rw t) (λ t. rw t))
    ]

pub returns : goal.returns
returns c =
    c.is_edition.ensures
    ∙ rw (c.u64_at.ensures, word_append 4 4 c.args.c.now 16) (joined _ _ (word_fits 4 c.args.c.now 16 (λ k. (c.type_inv.c k).fits)))
