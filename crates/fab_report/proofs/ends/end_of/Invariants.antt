use Rattle.fab_tables.proofs.Paths.Ways.{IsOnWay}
use Rattle.fab_report.proofs.ends.end_of.Given as goal

abbrev pub invariant-loop : goal.invariant-loop
invariant-loop l = (goal.iterator-loop).can_next l.route × (goal.iterator-loop).is_finite l.route × IsOnWay l.fabric l.tables l.fn.from.0 l.fn.lid.0 l.route
