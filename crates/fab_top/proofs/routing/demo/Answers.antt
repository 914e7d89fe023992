use Rattle.fab_top.proofs.Laying.EngineAnswers.{demo_found}
use Rattle.fab_top.proofs.routing.demo.Goals as goal

pub returns : goal.returns
returns c = demo_found c.args.recipe c.args.engine _ _ c.in_ok-fabric.ensures.rows c.shown_off.ensures
