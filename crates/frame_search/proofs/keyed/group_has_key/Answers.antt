use Rattle.std.proofs.Common.{◌≡◌, ◌+◌, ◌-◌, ◌/◌, ◌%◌, eqb, rules, arith}
use borrow.Author.Tests.{eqb-false}
use Rattle.choice.proofs.Tests.{fails}
use Rattle.words.specs.Words.{word_at}
use Rattle.frames.specs.Table.{frame_entry_at}
use Rattle.frame_search.proofs.Ranges.{fold_any}
use Rattle.frame_search.proofs.Matches.{key_there}
use Rattle.frame_search.proofs.keyed.group_has_key.Goals as goal

pub returns : goal.returns
returns c e j l m =
    let a = c.args in
    let s : a.i + (j - a.i) ≡ j = omega arith in
    let h = rw s at (fold_any (λ k. eqb (word_at 8 a.c.now (frame_entry_at (a.i + k)) / 65536 % 4294967296) a.key) 16 _ _ (λ k x y q t. search rules) c.fold.ensures.ran e (j - a.i) (omega arith) (omega arith)) in
    fails _ (λ t. eqb-false _ _ h (key_there _ _ _ t))
