use Rattle.fab_top.specs.Answers.{IsRouteAnswer}
use Rattle.fab_top.specs.Headline.{RoutesTruly}
use Rattle.fab_top.proofs.Steps.OnFabric.{on_fabric_found}
use Rattle.fab_top.proofs.routing.route.Goals as goal

pub returns : goal.returns
returns g c =
    on_fabric_found c.args.fabric (IsRouteAnswer c.args.engine) (RoutesTruly c.args.engine) _ _ _ _ _ _ _ c.in_ok-fabric.ensures.taken c.in_ok-fabric.ensures.told c.routed.ensures
