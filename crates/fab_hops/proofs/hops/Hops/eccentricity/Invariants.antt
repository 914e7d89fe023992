-- The greatest of the counts so far.
use Rattle.fab_hops.specs.HopCounts.{hop_count}
use Rattle.fab_hops.proofs.GreatestHops.{IsAttained, IsGreatest}
use Rattle.fab_hops.proofs.hops.Hops.eccentricity.Given as goal

abbrev pub invariant-loop-index : goal.invariant-loop-index
invariant-loop-index l = record {
  attained : IsAttained (λ to. hop_count l.self l.s.0 to) l.self.switches l.greatest;
  greatest : IsGreatest (λ to. hop_count l.self l.s.0 to) l.index l.greatest;
}
