-- The ports listed are those of the channels so far that may be taken.
use Rattle.fab_updn.specs.Found.{IsLegalRow}
use Rattle.fab_updn.proofs.Listing.{AreListed}
use Rattle.fab_updn.proofs.legal_ports.find_legal_ports.Given as goal

abbrev pub invariant-loop-number : goal.invariant-loop-number
invariant-loop-number l = AreListed l.fabric (λ row. IsLegalRow l.ranks l.costs row) l.fn.s.0 l.number l.ports.items
