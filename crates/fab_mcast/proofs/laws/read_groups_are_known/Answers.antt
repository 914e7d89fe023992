use Rattle.fab_mcast.proofs.KnownMembers
use Rattle.fab_mcast.proofs.laws.read_groups_are_known.Goals as goal

pub returns : goal.returns
returns c = KnownMembers.read_groups_are_known
