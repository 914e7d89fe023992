use Rattle.fab_tables.proofs.Paths.Ways.{IsOnWay}
use Rattle.fab_tables.proofs.Paths.Walked.{IsWalking}
use Rattle.fab_tables.proofs.reaching.end_of_route.Given as goal

abbrev pub invariant-loop-channel : goal.invariant-loop-channel
invariant-loop-channel l =
    (goal.iterator-loop-channel).can_next l.route × (goal.iterator-loop-channel).is_finite l.route
    × ((way : IsOnWay l.fabric l.tables l.fn.from.0 l.fn.lid.0 l.route) × IsWalking l.fabric l.tables l.fn.lid.0 l.fn.from.0 way.passed l.delivered)
