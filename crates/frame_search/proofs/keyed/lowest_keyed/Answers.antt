use Rattle.std.proofs.Common.{◌∙◌, arith}
use Rattle.choice.proofs.Parts.{part_found, part_ends}
use Rattle.frame_search.specs.Match.{first_keyed}
use Rattle.frame_search.proofs.Loops.{search_start}
use Rattle.frame_search.proofs.keyed.lowest_keyed.Goals as goal

pub returns-then-found-lt-FIRST : goal.returns-then-found-lt-FIRST
returns-then-found-lt-FIRST c =
    part_found _ _ 0 first_keyed (omega arith) c.if-frames-lt-FIRST.false (search_start _ _) _ c.first_keyed-found.ensures c.if-found-lt-FIRST.true

pub returns : goal.returns
returns c =
    c.by_key-2.ensures
    ∙ part_ends _ _ 0 first_keyed (omega arith) c.if-frames-lt-FIRST.false (search_start _ _) _ c.first_keyed-found.ensures
    c.if-found-lt-FIRST.false
