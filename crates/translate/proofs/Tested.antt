-- The row's tests were made: one refuses, or they pass and something follows. Assumes nothing.
use Rattle.std.proofs.Common.{◌≡◌}
use Rattle.refusal.specs.declared.Refusal.{Refusal}
use Rattle.translate.specs.Checks.{row_checks}
use Rattle.translate.specs.Translate.{tested}
use Rattle.translate.specs.declared.request.Request.{Request}
use Rattle.translate.specs.declared.sought.Sought.{Sought}
use Rattle.std.specs.Prelude.{Err, Ok}
use Rattle.refusal.specs.Checks.{Check}
use Rattle.translate.specs.Place.{Translation}

module _ (q : Request) (x : Sought) {check : Check} (made : check ≡ row_checks x.entry x.permitted q x.end) where
  -- one refuses
  pub tests_stop : (t : Translation) {r : Refusal} → check ≡ Err r → Err r ≡ tested q x t
  tests_stop t e = rw (← made, e)

  -- they pass
  pub tests_pass : {t u : Translation} → check ≡ Ok tt → u ≡ t → u ≡ tested q x t
  tests_pass e h = rw (← made, e) h
