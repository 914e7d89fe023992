use Rattle.fab_depgraph.proofs.Listing.Kept
use Rattle.fab_depgraph.proofs.laws.rising_is_acyclic.Goals as goal

pub returns : goal.returns
returns c = Kept.rising_closes_none
