use Rattle.fab_depgraph.proofs.Listing.ClosedWalks
use Rattle.fab_depgraph.proofs.laws.subsets_are_acyclic.Goals as goal

pub returns : goal.returns
returns c = ClosedWalks.subsets_are_acyclic
