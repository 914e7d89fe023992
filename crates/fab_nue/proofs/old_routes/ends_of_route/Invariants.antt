-- The rest of the route ends as the route.
use Rattle.std.proofs.Common.{◌≡◌}
use Rattle.fab_tables.specs.Route.{route as path}
use Rattle.fab_nue.proofs.old_routes.ends_of_route.Given as goal

abbrev pub invariant-loop : goal.invariant-loop
invariant-loop l = (goal.iterator-loop).can_next l.route × (goal.iterator-loop).is_finite l.route × (l.route.end ≡ (path l.fabric l.tables l.fn.from.0 l.fn.lid.0).end)
