use Rattle.std.proofs.Common.{◌≡◌}
use Rattle.time_searches.specs.Searches.{EndsAt}
use Rattle.time_searches.proofs.searches.search.Given as goal

abbrev pub invariant-loop : goal.invariant-loop
invariant-loop l = EndsAt l.c l.kind l.page → l.at ≡ l.page
