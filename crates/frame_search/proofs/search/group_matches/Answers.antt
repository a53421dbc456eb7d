use Rattle.std.proofs.Common.{◌≡◌, ◌+◌, ◌-◌, rules, arith}
use Rattle.frame_search.specs.Match.{matches}
use Rattle.frame_search.proofs.Ranges.{fold_any}
use Rattle.frame_search.proofs.search.group_matches.Goals as goal

pub returns : goal.returns
returns c e j l m =
    let a = c.args in
    let f = matches a.c.now a.mask a.wanted in
    let s : a.i + (j - a.i) ≡ j = omega arith in
    rw s at (fold_any (λ k. f (a.i + k)) 16 _ _ (λ k x y q h. search rules) c.fold.ensures.ran e (j - a.i) (omega arith) (omega arith))
