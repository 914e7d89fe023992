use Rattle.fab_rings.proofs.Returning.RingSteps.{near_itself}
use Rattle.fab_rings.proofs.rings.ring_at.Goals as goal

pub ring_from-requires-clause-closed : goal.ring_from-requires-clause-closed
ring_from-requires-clause-closed c = rw c.deref.ensures.value (near_itself c.args.graph.now c.args.first c.in_ok-near.near.items c.in_ok-near.ensures c.requires.closed)
