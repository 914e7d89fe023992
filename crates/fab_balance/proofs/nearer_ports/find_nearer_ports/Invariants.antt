-- The ports listed are those that lead nearer by the channels so far.
use Rattle.fab_balance.proofs.NearerPorts.{AreNearerBelow}
use Rattle.fab_balance.proofs.nearer_ports.find_nearer_ports.Given as goal

abbrev pub invariant-loop-number : goal.invariant-loop-number
invariant-loop-number l = AreNearerBelow l.fabric l.fn.s.0 l.to.0 l.number l.ports.items
