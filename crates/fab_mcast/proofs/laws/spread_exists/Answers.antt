use Rattle.fab_mcast.proofs.SpreadExists
use Rattle.fab_mcast.proofs.laws.spread_exists.Goals as goal

pub returns : goal.returns
returns c = SpreadExists.spread_exists
