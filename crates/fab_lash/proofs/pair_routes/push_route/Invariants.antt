use Rattle.std.proofs.Common.{◌≡◌, ◌++◌}
use Rattle.fab_tables.specs.Route.{route}
use Rattle.fab_lash.specs.Followers.{followers}
use Rattle.fab_lash.proofs.Followers.{followers_after}
use Rattle.fab_lash.proofs.pair_routes.push_route.Given as goal

abbrev pub invariant-loop-second : goal.invariant-loop-second
invariant-loop-second l =
    (goal.iterator-loop-second).can_next l.second-iterator × (goal.iterator-loop-second).is_finite l.second-iterator
    × (l.dependencies.items ++ followers_after l.before l.second-iterator.channels ≡ l.initial.dependencies.items ++ followers (route l.fabric l.tables l.fn.from.0 l.fn.lid.0).channels)
