-- The walks begin at the starts so far.
use Rattle.fab_transit.specs.Walking.{AreFromWalks, AreFoundFor, Advances}
use Rattle.fab_transit.proofs.Beginning.{AreBegunUpTo}
use Rattle.fab_transit.proofs.walks.begin.Given as goal

abbrev pub invariant-loop-start : goal.invariant-loop-start
invariant-loop-start l =
    AreFromWalks l.plans.fabric l.plans.change l.walks × AreFoundFor l.plans.fabric l.plans.change l.lid.0 l.found
    × Advances l.fn.found l.found l.fn.walks l.walks × AreBegunUpTo l.plans.fabric l.plans.change l.lid.0 l.starts l.start-index l.found l.walks
