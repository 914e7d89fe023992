-- Laws of loads.
use Rattle.std.specs.Prelude.{◌≡◌, ℕ, ◌+◌, ◌<◌}
use Rattle.fab_model.specs.Topology.{Topology}
use Rattle.fab_model.specs.WellFormed.{IsFabric}
use Rattle.fab_tables.specs.declared.plan.Plan.{Plan}
use Rattle.fab_tables.specs.declared.verdict.VirtualChannel.{VirtualChannel}
use Rattle.fab_tables.specs.Fit.{PlanFits}
use Rattle.fab_tables.specs.Certified.{IsCertified}
use Rattle.fab_drain.specs.declared.state.Filled.{Filled}
use Rattle.fab_drain.specs.declared.state.Drained.{Drained}
use Rattle.fab_drain.specs.declared.state.Drained.TheVariants.{Empty}
use Rattle.fab_certify.specs.Certificate.{IsSoundPlan}
use Rattle.fab_drain.specs.Loads.{Load, IsLoad, emptied, packet_count, hops_left}
use Rattle.fab_drain.specs.Fills.{IsFilled}
use Rattle.fab_drain.specs.Moves.{advanced, MayMove}
use Rattle.fab_drain.specs.Drains.{EndsAs}

-- on a certified plan some packet of each load may move, unless the load is empty
abbrev pub SomePacketMoves : Type 0
SomePacketMoves = (t : Topology) (p : Plan) (load : Load) → IsFabric t → PlanFits t p → IsCertified t p → IsLoad t p load → 0 < packet_count load →
    (v : VirtualChannel) × MayMove t p load v

-- a move keeps a load, and takes one from the sum of the remaining hops
abbrev pub MovesKeepLoads : Type 0
MovesKeepLoads = (t : Topology) (p : Plan) (load : Load) (v : VirtualChannel) → IsFabric t → PlanFits t p → IsSoundPlan t p → IsLoad t p load →
    IsLoad t p (advanced t p load v).1

abbrev pub MovesTakeOneHop : Type 0
MovesTakeOneHop = (t : Topology) (p : Plan) (load : Load) (v : VirtualChannel) → IsFabric t → PlanFits t p → IsSoundPlan t p → IsLoad t p load → MayMove t p load v →
    hops_left (advanced t p load v).1 + 1 ≡ hops_left load

-- a load without packets is one of any plan
abbrev pub EmptiedIsLoad : Type 0
EmptiedIsLoad = (t : Topology) (p : Plan) (load : Load) → IsLoad t p load → IsLoad t p (emptied load)

-- there is one filling, and one way to drain
abbrev pub OneFilling : Type 0
OneFilling = (t : Topology) (p : Plan) (x y : Filled) → IsFabric t → PlanFits t p → IsFilled t p x → IsFilled t p y → x ≡ y

-- a plan that fits the fabric has a filling, or is refused
abbrev pub FillingExists : Type 0
FillingExists = (t : Topology) (p : Plan) → IsFabric t → PlanFits t p → (x : Filled) × IsFilled t p x

abbrev pub OneDraining : Type 0
OneDraining = (t : Topology) (p : Plan) (old x y : Load) (answer other : Drained) → IsFabric t → PlanFits t p → IsSoundPlan t p → IsLoad t p old →
    EndsAs t p old x answer → EndsAs t p old y other → (x ≡ y) × (answer ≡ other)

-- a load that ends empty has made a move for each remaining hop
abbrev pub EmptyMovesAllHops : Type 0
EmptyMovesAllHops = (t : Topology) (p : Plan) (old new : Load) (moves : ℕ) → IsFabric t → PlanFits t p → IsSoundPlan t p → IsLoad t p old →
    EndsAs t p old new (Empty moves) → moves ≡ hops_left old

-- and on a certified plan each load ends so
abbrev pub CertifiedDrains : Topology → Plan → Load → Drained → Type 0
CertifiedDrains t p old answer = IsCertified t p → answer ≡ Empty (hops_left old)

abbrev pub CertifiedLoadsDrain : Type 0
CertifiedLoadsDrain = (t : Topology) (p : Plan) (old new : Load) (answer : Drained) → IsFabric t → PlanFits t p → IsLoad t p old → EndsAs t p old new answer → CertifiedDrains t p old answer

-- on any plan a load ends: empty, or with a ring of packets that wait for each other
abbrev pub LoadsEnd : Type 0
LoadsEnd = (t : Topology) (p : Plan) (load : Load) → IsFabric t → PlanFits t p → IsSoundPlan t p → IsLoad t p load → (answer : Drained) × (new : Load) × EndsAs t p load new answer
