use Rattle.fab_mcast.proofs.PlantingExists
use Rattle.fab_mcast.proofs.laws.planting_exists.Goals as goal

pub returns : goal.returns
returns c = PlantingExists.planting_exists
