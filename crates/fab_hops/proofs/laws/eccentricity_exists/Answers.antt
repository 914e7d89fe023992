use Rattle.fab_hops.proofs.TableExists
use Rattle.fab_hops.proofs.laws.eccentricity_exists.Goals as goal

pub returns : goal.returns
returns c = TableExists.eccentricity_exists
