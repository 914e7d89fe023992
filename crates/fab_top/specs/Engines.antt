-- The plans of the engines, and their refusals.
use Rattle.std.specs.Prelude.{◌≡◌, ℕ, ◌-◌, ◌<◌, ◌≤◌, Bool, true, false, List, [], None, Result, Ok, Err}
use Rattle.fab_model.specs.Topology.{Topology}
use Rattle.fab_tables.specs.declared.plan.Plan.{Plan}
use Rattle.fab_balance.specs.MinHop.{AreMinHopTables, AreDorTables}
use Rattle.fab_sssp.specs.LeastWeightTables.{AreLeastWeightTables}
use Rattle.fab_tables.specs.Entries.{Entries}
use Rattle.fab_depgraph.specs.Listed.{Dependencies}
use Rattle.fab_lash.specs.Layered.{IsLayeredPlan}
use Rattle.fab_lash.specs.Layerings as layers
use Rattle.fab_dfsssp.specs.DfssspPlans.{IsDfssspPlan}
use Rattle.fab_dfsssp.specs.Breaking as rings
use Rattle.fab_nue.specs.NuePlan.{IsNuePlan}
use Rattle.fab_top.specs.declared.command.Engine.{Engine}
use Rattle.fab_top.specs.declared.command.Engine.TheVariants.{MinHop, Dor, Sssp, Updn, Lash, Dfsssp, Nue}
use Rattle.fab_updn.specs.UpDownPlans.{IsUpDownPlan, IsRefusedPair}
use Rattle.fab_top.specs.Answer.{Answer, no, refused}
use Rattle.fab_top.specs.Files.{roots_from}
use Rattle.fab_top.specs.Texts.{no_legal_route_text, lane_for_pair_text, lane_for_ring_text}

-- up/down routing with the named roots lays this plan; where one of them isn't in the fabric, it lays none
abbrev pub LaysUpDown : Topology → Result (List ℕ) (List ℕ) → Plan → Type 0
LaysUpDown t (Ok roots) p = IsUpDownPlan t roots p
LaysUpDown t (Err reason) p = ⊥

-- it refuses the fabric: no legal route leads from one switch to another, or a root isn't in the fabric
abbrev pub RefusesUpDown : Topology → Result (List ℕ) (List ℕ) → Answer → Type 0
RefusesUpDown t (Ok roots) answer = (from to : ℕ) × IsRefusedPair t roots from to × (answer ≡ no (no_legal_route_text t from to))
RefusesUpDown t (Err reason) answer = answer ≡ refused reason

-- layers on so many lanes, or the first pair of switches that needs another
abbrev pub LaysLayers : Topology → ℕ → Plan → Type 0
LaysLayers t lanes p = (used : List Dependencies) × IsLayeredPlan t lanes p used

abbrev pub RefusesPair : Topology → ℕ → Answer → Type 0
RefusesPair t lanes answer =
    (e : Entries) × (low high : ℕ) × AreDorTables t e × layers.NeedsLane t e lanes low high × (answer ≡ no (lane_for_pair_text t low high))

-- of breaking rings, the ring that is left on the last lane
abbrev pub RefusesRing : Topology → ℕ → Answer → Type 0
RefusesRing t lanes answer =
    (e : Entries) × (ring : List ℕ) × AreLeastWeightTables t e × rings.NeedsLane t e lanes ring × (answer ≡ no (lane_for_ring_text t (lanes - 1) ring))

-- an engine that takes a lane count is asked for 1 to 15
abbrev pub IsLaneCount : ℕ → Type 0
IsLaneCount n = (0 < n) × (n ≤ 15)

abbrev pub HasLaneCount : Engine → Type 0
HasLaneCount (Lash lanes) = IsLaneCount lanes
HasLaneCount (Dfsssp lanes) = IsLaneCount lanes
HasLaneCount (Nue lanes) = IsLaneCount lanes
HasLaneCount _ = Unit {0}

-- the engine lays this plan for the fabric
abbrev pub Lays : Topology → Engine → Plan → Type 0
Lays t MinHop p = (p.lanes ≡ None) × AreMinHopTables t p.tables
Lays t Dor p = (p.lanes ≡ None) × AreDorTables t p.tables
Lays t Sssp p = (p.lanes ≡ None) × AreLeastWeightTables t p.tables
Lays t (Updn guids) p = LaysUpDown t (roots_from 0 t guids) p
Lays t (Lash lanes) p = LaysLayers t lanes p
Lays t (Dfsssp lanes) p = IsDfssspPlan t lanes p
Lays t (Nue lanes) p = IsNuePlan t lanes None [] p

-- it refuses the fabric, with this answer
abbrev pub RefusesWith : Topology → Engine → Answer → Type 0
RefusesWith t MinHop answer = ⊥
RefusesWith t Dor answer = ⊥
RefusesWith t Sssp answer = ⊥
RefusesWith t (Updn guids) answer = RefusesUpDown t (roots_from 0 t guids) answer
RefusesWith t (Lash lanes) answer = RefusesPair t lanes answer
RefusesWith t (Dfsssp lanes) answer = RefusesRing t lanes answer
RefusesWith t (Nue lanes) answer = ⊥

-- the engines whose plans have lanes
abbrev pub has_lanes : Engine → Bool
has_lanes MinHop = false
has_lanes Dor = false
has_lanes Sssp = false
has_lanes _ = true

-- the engines that refuse no fabric
abbrev pub never_refuses : Engine → Bool
never_refuses (Updn guids) = false
never_refuses (Lash lanes) = false
never_refuses (Dfsssp lanes) = false
never_refuses _ = true
