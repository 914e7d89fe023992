use Rattle.fab_repair.proofs.Repairing.{left_has}
use Rattle.fab_repair.proofs.repaired.repair.Goals as goal

pub nue-requires-clause-kept : goal.nue-requires-clause-kept
nue-requires-clause-kept c = left_has c.args.fabric.now c.in_ok-left.left c.args.failed.now c.args.plan.now c.in_ok-left.ensures.rows c.requires.fits
