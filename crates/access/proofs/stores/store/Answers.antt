use Rattle.access.proofs.stores.store.Goals as goal
use Rattle.std.proofs.Common.{refl, arith, rules}
use Rattle.words.proofs.Word.{length-word_bytes}
use Rattle.access.proofs.Answers.{refused_store, given_store, place_size, place_writable, place_fits}

pub returns-in_default : goal.returns-in_default
returns-in_default c =
    let g =
    refused_store _ _ _ _ _ _ c.translate-answer.ensures c.in_default.is _ (length-word_bytes c.args.n c.args.v) {x = c.map.result} (search rules) in
    record { value = g.0; c_after = g.1.0; pool_after = g.1.1 }

pub make_writable-at-requires : goal.make_writable-at-requires
make_writable-at-requires c =
    place_writable _ _ _ _ _ _ c.translate-answer.ensures c.in-Ok.is refl

pub write-requires : goal.write-requires
write-requires c =
    let i = c.translate-answer.ensures in
    let e = c.in-Ok.is in
    (place_size _ _ _ _ _ _ i e (omega arith), place_fits _ _ _ _ _ _ i e refl c.make_writable-at.ensures.value c.make_writable-at.ensures.pool_after)

pub returns : goal.returns
returns c =
    let x = c.make_writable-at.ensures in
    let i = c.translate-answer.ensures in
    let e = c.in-Ok.is in
    let g =
    given_store _ _ _ _ _ _ i e _ (length-word_bytes c.args.n c.args.v) (place_writable _ _ _ _ _ _ i e refl) x.value x.c_after x.pool_after
    c.write.ensures in
    record { value = g.0; c_after = g.1.0; pool_after = g.1.1 }
