use Rattle.fab_export.proofs.NoRows.{fit_is_good}
use Rattle.fab_export.proofs.write.write_part.Goals as goal

pub new-reached-requires-clause-reaches : goal.new-reached-requires-clause-reaches
new-reached-requires-clause-reaches g c = (fit_is_good c.args.fabric.now c.args.plan.now c.args.part c.requires.fit).0
