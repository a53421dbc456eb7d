use Rattle.std.proofs.Common.{ℕ, ◌≡◌, List}
use Rattle.choice.proofs.Tests.{by_test}
use Rattle.refusal.specs.Checks.{need, ◌then◌}
use Rattle.segments.specs.declared.rules.FetchRule.{FetchRule}
use Rattle.segments.specs.declared.rules.Presence.{Presence}
use Rattle.segments.specs.declared.rules.StoreRule.{StoreRule}
use Rattle.translate.specs.Checks.{row_checks}
use Rattle.translate.specs.Translate.{concerned_valid, row_check, no_entry, sought_of, place_of, answer_of, in_row}
use Rattle.translate.specs.declared.request.Request.{Request}
use Rattle.translate.proofs.translation.in_row.Goals as goal

module _ (s c : List ℕ) (p : Presence) (fetch : FetchRule) (store : StoreRule) (q : Request) where
  -- what is sought, answered, is the definition's: an entry that is not valid is refused whatever else holds
  same : answer_of c q (sought_of s c p fetch store q) ≡ in_row s c p fetch store q
  unfolding answer_of in_row row_check row_checks place_of sought_of no_entry need ◌then◌
  same = by_test (concerned_valid s c p q) (λ t. rw t) (λ t. rw t)

pub returns : goal.returns
returns c = rw (← same _ _ _ _ _ _, ← c.sought_of-x.ensures) c.answer.ensures
