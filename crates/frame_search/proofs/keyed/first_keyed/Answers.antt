use Rattle.std.proofs.Common.{rules, arith, ◌∙◌}
use Rattle.frame_search.specs.Match.{copy_of}
use Rattle.frame_search.proofs.Ranges.{find_seeks}
use Rattle.frame_search.proofs.keyed.first_keyed.Goals as goal

pub returns : goal.returns
returns c = c.unwrap_or.ensures ∙ find_seeks (copy_of c.args.c.now c.args.key) _ _ _ _ (omega arith) c.find.ensures.ran (λ x b q k. search rules)
