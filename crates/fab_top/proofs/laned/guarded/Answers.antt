use Rattle.fab_top.proofs.Laying.EnginePlans.{nue_laid}
use Rattle.fab_top.proofs.laned.guarded.Goals as goal

pub returns : goal.returns
returns c = nue_laid c.args.fabric.now c.args.lanes _ _ _ c.in_ok-laid.ensures.plan
