use Rattle.std.proofs.Common.{◌≡◌, ◌+◌, length}
use Rattle.fab_tables.specs.Route.{route}
use Rattle.fab_report.proofs.ends.delivered_hops.Given as goal

abbrev pub invariant-loop-hops : goal.invariant-loop-hops
invariant-loop-hops l =
    (goal.iterator-loop-hops).can_next l.route × (goal.iterator-loop-hops).is_finite l.route × (l.route.end ≡ (route l.fabric l.tables l.fn.from.0 l.fn.lid.0).end)
    × (l.hops + length l.route.channels ≡ length (route l.fabric l.tables l.fn.from.0 l.fn.lid.0).channels)
