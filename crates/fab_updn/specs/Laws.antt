-- Laws of up/down routing. Those that take any ranks hold of the right ones too.
use Rattle.std.specs.Prelude.{◌≡◌, ℕ, ◌<◌, ◌⊎◌, List, [], length, All, Some, slice_get}
use Rattle.fab_graph.specs.Walks.{IsAcyclic}
use Rattle.fab_model.specs.declared.rows.ChannelRow.{ChannelRow}
use Rattle.fab_model.specs.Topology.{Topology}
use Rattle.fab_model.specs.WellFormed.{IsWellFormed, IsFabric}
use Rattle.fab_model.specs.Connected.{IsConnectedTo}
use Rattle.fab_tables.specs.declared.plan.Plan.{Plan}
use Rattle.fab_tables.specs.Entries.{Entries}
use Rattle.fab_tables.specs.Route.{route}
use Rattle.fab_tables.specs.VirtualChannels.{Follow}
use Rattle.fab_tables.specs.Certified.{Reaches}
use Rattle.fab_updn.specs.Ranks.{HasOneRoot, IsRank, AreRanks, GoesUp, GoesDown}
use Rattle.fab_updn.specs.UpDown.{AreUpDownTables}
use Rattle.fab_updn.specs.UpDownPlans.{IsUpDownPlan, IsRefusedPair}

-- a switch has one rank at most, and the ranks of a fabric are one list
abbrev pub OneRank : Type 0
OneRank = (t : Topology) (named : List ℕ) (s m n : ℕ) → IsRank t named s m → IsRank t named s n → m ≡ n

abbrev pub OneListOfRanks : Type 0
OneListOfRanks = (t : Topology) (named x y : List ℕ) → AreRanks t named x → AreRanks t named y → x ≡ y

-- a route that went down doesn't go up again
abbrev pub NoDownThenUp : Type 0
NoDownThenUp = (t : Topology) (ranks : List ℕ) (e : Entries) (s lid c d : ℕ) (row next : ChannelRow) → IsWellFormed t → AreUpDownTables t ranks e → IsConnectedTo t s lid →
    Follow (route t e s lid).channels c d → slice_get t.channels c ≡ Some row → slice_get t.channels d ≡ Some next →
    GoesDown ranks row → GoesDown ranks next

-- pairs of channels that follow each other and don't go down and then up close no walk
abbrev pub IsLegalTurn : Topology → List ℕ → ℕ → ℕ → Type 0
IsLegalTurn t ranks c d = (row next : ChannelRow) × (slice_get t.channels c ≡ Some row) × (slice_get t.channels d ≡ Some next) × (row.tip ≡ next.tail)
    × (row.tail.0 ≡ row.tip.0 → ⊥) × (next.tail.0 ≡ next.tip.0 → ⊥) × (GoesUp ranks row ⊎ GoesDown ranks next)

abbrev pub LegalTurnsAreAcyclic : Type 0
LegalTurnsAreAcyclic = (t : Topology) (ranks : List ℕ) → IsAcyclic (IsLegalTurn t ranks)

-- the tables reach
abbrev pub UpDownReaches : Type 0
UpDownReaches = (t : Topology) (ranks : List ℕ) (e : Entries) → IsWellFormed t → AreUpDownTables t ranks e → Reaches t e

-- there is one refused pair at most
abbrev pub OneRefusedPair : Type 0
OneRefusedPair = (t : Topology) (named : List ℕ) (from to a b : ℕ) → IsRefusedPair t named from to → IsRefusedPair t named a b → (from ≡ a) × (to ≡ b)

-- and no plan beside it
abbrev pub PlanOrRefusal : Type 0
PlanOrRefusal = (t : Topology) (named : List ℕ) (p : Plan) (from to : ℕ) → IsUpDownPlan t named p → ¬ IsRefusedPair t named from to

-- a fabric with named roots has one plan at most
abbrev pub OneUpDownPlan : Type 0
OneUpDownPlan = (t : Topology) (named : List ℕ) (p q : Plan) → IsWellFormed t → IsUpDownPlan t named p → IsUpDownPlan t named q → p ≡ q

-- and where the roots are switches of it, it has a plan or a refused pair
abbrev pub PlanOrRefusalExists : Type 0
PlanOrRefusalExists = (t : Topology) (named : List ℕ) → IsFabric t → All (λ root. root < length t.switches) named →
    ((p : Plan) × IsUpDownPlan t named p) ⊎ ((from to : ℕ) × IsRefusedPair t named from to)

-- in a component with one root, named or its centre, no pair is refused; so where each component has one, no pair is
abbrev pub OneRootNeverRefused : Type 0
OneRootNeverRefused = (t : Topology) (named : List ℕ) (from to : ℕ) → IsWellFormed t → HasOneRoot t named from → ¬ IsRefusedPair t named from to

-- and where no root is named, each component has one
abbrev pub UnnamedNeverRefused : Type 0
UnnamedNeverRefused = (t : Topology) (from to : ℕ) → IsWellFormed t → ¬ IsRefusedPair t [] from to
