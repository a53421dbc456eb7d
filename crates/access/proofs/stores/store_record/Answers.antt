use Rattle.access.proofs.stores.store_record.Goals as goal
use Rattle.std.proofs.Common.{refl, ◌∙◌, arith, rules}
use Rattle.words.proofs.Run.{run_all}
use Rattle.access.proofs.Answers.{refused_store, given_store, place_long, place_writable, place_fits}

pub returns-in_default : goal.returns-in_default
returns-in_default c =
    let g =
    refused_store _ _ _ _ _ _ c.translate-recorded.ensures c.in_default.is _ refl {x = c.map.result} (search rules) in
    record { value = g.0; c_after = g.1.0; pool_after = g.1.1 }

pub make_writable-start-requires : goal.make_writable-start-requires
make_writable-start-requires c =
    place_writable _ _ _ _ _ _ c.translate-recorded.ensures c.in-Ok.is refl

pub copy-requires : goal.copy-requires
copy-requires c =
    let i = c.translate-recorded.ensures in
    let e = c.in-Ok.is in
    (place_long _ _ _ _ _ _ i e, place_fits _ _ _ _ _ _ i e refl c.make_writable-start.ensures.value c.make_writable-start.ensures.pool_after, omega arith)

pub returns : goal.returns
returns c =
    let x = c.make_writable-start.ensures in
    let i = c.translate-recorded.ensures in
    let e = c.in-Ok.is in
    let g =
    given_store _ _ _ _ _ _ i e _ refl (place_writable _ _ _ _ _ _ i e refl) x.value x.c_after x.pool_after
    (c.copy.ensures ∙ rw run_all) in
    record { value = g.0; c_after = g.1.0; pool_after = g.1.1 }
