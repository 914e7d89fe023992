-- The LIDs so far have the balanced choices, and the counters hold the loads.
use Rattle.fab_updn.proofs.Balancing.{IsBalancing}
use Rattle.fab_updn.proofs.Eligibility.{IsLegalBy}
use Rattle.fab_updn.proofs.tables.choose_balanced.Given as goal

abbrev pub invariant-loop-lid : goal.invariant-loop-lid
invariant-loop-lid l = IsBalancing l.fabric (IsLegalBy l.fabric l.ranks l.costs) l.fn.s.0 l.fn.tables l.tables l.lid-index l.loads
