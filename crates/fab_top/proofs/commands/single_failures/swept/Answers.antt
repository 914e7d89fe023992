use Rattle.fab_top.proofs.Sweeping.{sweep_found}
use Rattle.fab_top.proofs.commands.single_failures.swept.Goals as goal

pub returns : goal.returns
returns c =
    sweep_found c.args.what c.args.lanes c.args.fabric.now c.args.plan.now _ _ _ _ c.in_ok-swept.ensures.rows c.in_ok-swept.ensures.certified c.rows.ensures c.in_ok-text.ensures c.done.ensures.answer c.done.ensures.can_be_put
