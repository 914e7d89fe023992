use Rattle.fab_model.proofs.Without.{without_keeps_no_own_cable}
use Rattle.fab_top.proofs.commands.failed_cables.without_failed.Goals as goal

pub returns-in-Ok-clause-no_own_cable : goal.returns-in-Ok-clause-no_own_cable
returns-in-Ok-clause-no_own_cable c = without_keeps_no_own_cable c.args.fabric.now c.in-Ok.left c.args.cables.now c.in-Ok.ensures.rows
