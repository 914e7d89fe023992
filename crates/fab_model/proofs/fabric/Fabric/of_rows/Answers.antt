use Rattle.fab_model.proofs.MakesItself.{makes_itself}
use Rattle.fab_model.proofs.fabric.Fabric.of_rows.Goals as goal

pub returns-clause-itself : goal.returns-clause-itself
returns-clause-itself c = makes_itself _ c.requires.rows
