-- The first switches have the first channels of their routes, which are delivered.
use Rattle.std.proofs.Common.{◌≡◌, ◌<◌, ℕ, length}
use Rattle.fab_nue.specs.OldRoutes.{IsRoutedAt}
use Rattle.fab_nue.proofs.old_routes.write_route_tree.Given as goal

abbrev pub invariant-loop-s : goal.invariant-loop-s
invariant-loop-s l = record {
  each_switch : length l.tree ≡ length l.fabric.switches;
  each : (s : ℕ) → s < l.s → IsRoutedAt l.fabric l.tables l.lid.0 l.tree s;
}
