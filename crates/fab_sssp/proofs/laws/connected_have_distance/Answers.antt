use Rattle.fab_sssp.proofs.Walks.DistancesExist.{distance_exists}
use Rattle.fab_sssp.proofs.laws.connected_have_distance.Goals as goal

pub returns : goal.returns
returns c = λ t weight from to positive joined. distance_exists t weight positive to from joined
