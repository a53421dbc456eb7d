use Rattle.std.proofs.Common.{◌≡◌, ◌+◌, ◌<◌, ◌%◌, bit_or, eqb, rules, refl, arith}
use borrow.Author.Tests.{leb-false}
use Rattle.choice.proofs.Tests.{fails}
use Rattle.words.specs.Words.{word_at}
use Rattle.frames.specs.Table.{frame_entry_at, frame_entry_of, usage_of}
use Rattle.frame_search.specs.Match.{NoneOf}
use Rattle.frame_search.proofs.Ranges.{fold_keeps, none_more}
use Rattle.frame_search.proofs.Matches.{or_second, region_second}
use Rattle.frame_search.proofs.finding.group_may_hold_regions.Goals as goal

pub returns : goal.returns
returns c e q =
    let a = c.args in
    fold_keeps (λ k any. any % 4 < 2 → NoneOf (λ j. eqb (frame_entry_of a.c.now j).usage (usage_of q)) a.i k) 16 _ 0 _
    (λ k x y s t. (
      search rules,
      λ kept z.
          let word = word_at 8 a.c.now (frame_entry_at (a.i + k)) in
          let g : y ≡ bit_or x word = search rules in
          let p = or_second x word (rw g at z) in
          none_more _ _ _ (kept p.0) (fails _ (λ t. omega (arith, p.1, region_second _ _ (λ j. omega (arith, c.type_inv.c j)) q word refl t))),
    ))
    (λ z j l m. absurd (omega arith)) c.fold.ensures.ran (omega (arith, leb-false 2 _ e))
