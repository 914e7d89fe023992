use Rattle.fab_depgraph.proofs.Listing.ClosedWalks
use Rattle.fab_depgraph.proofs.laws.closes_by_walk.Goals as goal

pub returns : goal.returns
returns c = ClosedWalks.closes_by_walk
