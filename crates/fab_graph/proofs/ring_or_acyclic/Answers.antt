use Rattle.fab_graph.proofs.FirstRings
use Rattle.fab_graph.proofs.ring_or_acyclic.Goals as goal

pub returns : goal.returns
returns c = FirstRings.ring_or_acyclic
