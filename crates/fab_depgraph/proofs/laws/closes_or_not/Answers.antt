use Rattle.fab_depgraph.proofs.Listing.ClosedWalks
use Rattle.fab_depgraph.proofs.laws.closes_or_not.Goals as goal

pub returns : goal.returns
returns c = ClosedWalks.closes_or_not
