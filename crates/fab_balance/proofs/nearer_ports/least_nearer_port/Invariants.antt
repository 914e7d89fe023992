-- No port leads nearer by the channels so far.
use Rattle.fab_balance.proofs.NearerPorts.{HasNoNearerBelow}
use Rattle.fab_balance.proofs.nearer_ports.least_nearer_port.Given as goal

abbrev pub invariant-loop-number : goal.invariant-loop-number
invariant-loop-number l = HasNoNearerBelow l.fabric l.fn.s.0 l.to.0 l.number
