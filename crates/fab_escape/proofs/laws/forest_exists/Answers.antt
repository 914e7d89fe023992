use Rattle.fab_escape.proofs.ForestExists
use Rattle.fab_escape.proofs.laws.forest_exists.Goals as goal

pub returns : goal.returns
returns c = ForestExists.forest_exists
