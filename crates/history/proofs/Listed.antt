-- The list of a history is the replay's, which is fed no frame: so it does not depend on them. Assumes nothing.
use mathlib.Core.Path.{sym, ◌∙◌}
use Rattle.history.specs.Claims.{DemandThree}
use Rattle.history.specs.Listed.{ListedAlike}
use Rattle.history.proofs.Theorem.{demand_three}

pub listed_alike : ListedAlike
unfolding DemandThree
listed_alike s b b' x ks e e' fed out room =
    ((demand_three s b x ks e).list out room).bytes ∙ (rw fed (sym ((demand_three s b' x ks e').list out (rw fed at room)).bytes))
