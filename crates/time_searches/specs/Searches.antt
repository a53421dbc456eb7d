-- Document 02, "Three": which searches are timed. Assumes nothing.
use Rattle.std.specs.Prelude.{◌≡◌, ℕ, List, Some}
use Rattle.control.specs.declared.shadow.Region.TheVariants.{Stack}
use Rattle.frames.specs.Table.{frame_of}
use Rattle.frames.specs.declared.claim.Claim.{Claim}
use Rattle.frames.specs.declared.claim.Claim.TheVariants.{Copy, Anonymous}
use Rattle.time_searches.specs.declared.searches.Kind.{Kind}
use Rattle.time_searches.specs.declared.searches.Kind.TheVariants.{AccountPages, StackPages}

-- the claim of a page with this number: account 0's, or the stack's
abbrev pub claim_of : Kind → ℕ → Claim
claim_of AccountPages p = Copy (record { 0 = 0 }) (record { 0 = p })
claim_of StackPages p = Anonymous Stack (record { 0 = p })

-- "searches that end at entry 0 .. that end at the last": the search for a page ends at the entry that has its number
abbrev pub EndsAt : List ℕ → Kind → ℕ → Type 0
EndsAt c kind p = frame_of c (claim_of kind p) ≡ Some (record { 0 = p })
