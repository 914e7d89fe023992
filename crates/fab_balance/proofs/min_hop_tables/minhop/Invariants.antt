-- The switches so far have their entries.
use Rattle.fab_balance.specs.MinHop.{IsMinHopChoice}
use Rattle.fab_balance.proofs.Choosing.{IsChoosingSwitches}
use Rattle.fab_balance.proofs.min_hop_tables.minhop.Given as goal

abbrev pub invariant-loop-s : goal.invariant-loop-s
invariant-loop-s l = IsChoosingSwitches l.fabric (λ e. IsMinHopChoice l.fabric e) l.tables l.s
