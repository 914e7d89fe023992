use Rattle.std.proofs.Common.{subst}
use Rattle.fab_model.specs.WellFormed.{IsFabric}
use Rattle.fab_top.proofs.Generating.{generated_found}
use Rattle.fab_top.proofs.commands.generate.Goals as goal

pub returns : goal.returns
returns c = generated_found c.args.recipe _ _ c.requires c.in_ok-fabric.ensures.rows (subst IsFabric c.fabric.view_is c.fabric.invariant.0) c.fabric_text.ensures
