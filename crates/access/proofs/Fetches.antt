-- What translation answers for a fetch, as answers of the fetch. Assumes nothing.
use Rattle.std.proofs.Common.{ap, sym, ◌∙◌}
use Rattle.segments.specs.Kinds.{kind_fetch}
use Rattle.translate.specs.Place.{number_of_answer, Outcome}
use Rattle.access.proofs.Outcomes.{answered_outcome}
use Rattle.translate.specs.Translate.{translate_of}
use Rattle.translate.proofs.Answered.{allowed}
use Rattle.translate.proofs.Fetches.{fetch_same, fetch_where, older_reserved}
use Rattle.access.specs.Fetches.{FetchIsLoad, FetchNowhereElse, OlderReserved}
use Rattle.access.specs.Loads.{answered, load_of, fetch_of}

-- a fetch where it is allowed is a load
pub fetch_is_load : FetchIsLoad
unfolding load_of fetch_of
fetch_is_load s c p a n w = ap (answered s c p n) (fetch_same s c a n p w)

-- an accepted one is allowed
pub fetch_nowhere_else : FetchNowhereElse
unfolding fetch_of
fetch_nowhere_else s c p a n e =
    let t = translate_of s c p kind_fetch a n in
    allowed t (ap (λ (o : Outcome). o.number) (sym (answered_outcome s c p n t)) ∙ e) (λ q h. fetch_where s c a n p h)

-- the older edition has no segment 0/3
pub older_has_none : OlderReserved
older_has_none s c p kind a n built type index pass = ap number_of_answer (older_reserved s c a n p kind built type index pass)
