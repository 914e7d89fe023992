use Rattle.std.proofs.Common.{◌≡◌, ◌≤◌, ◌+◌, length}
use Rattle.fab_tables.specs.Route.{route}
use Rattle.fab_export.proofs.unfit_routes.is_long.Given as goal

abbrev pub invariant-loop-channels : goal.invariant-loop-channels
invariant-loop-channels l = record {
  few : l.channels ≤ 64;
  ahead : l.channels + length l.route.channels ≡ length (route l.fn.reached.fabric l.fn.reached.entries l.fn.switch.0 l.fn.lid.0).channels;
}
