use Rattle.std.proofs.Common.{length, sym, ◌∙◌, ap, arith, rules}
use Rattle.fab_model.specs.Topology.{Topology}
use Rattle.fab_export.proofs.FarRoutes.{far_found, none_far}
use Rattle.fab_export.proofs.unfit_routes.too_far_to.Goals as goal

pub returns-then-is_too_far : goal.returns-then-is_too_far
returns-then-is_too_far c =
    far_found c.args.reached.now.fabric c.args.reached.now.entries c.args.lid.0 c.loop-switch.switch (search rules) c.loop-switch.invariant (search rules) (sym c.is_too_far.ensures ∙ c.if-is_too_far.true)

pub returns : goal.returns
returns c = none_far c.args.reached.now.fabric c.args.reached.now.entries c.args.lid.0 (λ k low. c.loop-switch.invariant k (omega (arith, low, c.loop-switch-test.false, c.switches-switch-end.ensures.count, ap (λ (t : Topology). length t.switches) c.fabric-fabric.ensures.fabric)))
