use Rattle.std.specs.Prelude.{◌&&◌}
use Rattle.fab_model.specs.Topology.{is_source}
use Rattle.fab_export.specs.Unfits.{is_too_far}
use Rattle.fab_export.proofs.FirstFound.{NoneBelow}
use Rattle.fab_export.proofs.unfit_routes.too_far_to.Given as goal

abbrev pub invariant-loop-switch : goal.invariant-loop-switch
invariant-loop-switch l = NoneBelow (λ s. is_source l.reached.fabric s && is_too_far l.reached.fabric l.reached.entries l.lid.0 s) l.switch
