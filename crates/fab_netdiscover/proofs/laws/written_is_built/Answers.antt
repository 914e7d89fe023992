use Rattle.fab_netdiscover.proofs.WrittenFabric
use Rattle.fab_netdiscover.proofs.laws.written_is_built.Goals as goal

pub returns : goal.returns
returns c = WrittenFabric.written_is_built
