-- Laws of repairs. The fabric that is left is that without the failed cables, which are all in the old one.
use Rattle.std.specs.Prelude.{◌≡◌, ℕ, ◌<◌, ◌≤◌, List, [], Contains, Some, Ok}
use Rattle.fab_model.specs.declared.rows.Cable.{Cable}
use Rattle.fab_model.specs.Topology.{Topology}
use Rattle.fab_model.specs.Connected.{IsConnectedTo}
use Rattle.fab_model.specs.WellFormed.{IsFabric}
use Rattle.fab_model.specs.Without.{taken_out}
use Rattle.fab_tables.specs.declared.plan.Plan.{Plan}
use Rattle.fab_tables.specs.Entries.{entry}
use Rattle.fab_tables.specs.Fit.{IsSource, PlanFits}
use Rattle.fab_nue.specs.Kept.{old_level}
use Rattle.fab_nue.specs.NuePlan.{IsNuePlan}

-- taking out no cable leaves the fabric
abbrev pub NothingFailed : Type 0
NothingFailed = (t : Topology) → taken_out t [] ≡ Ok t

-- a plan of the old fabric has one repair
abbrev pub OneRepair : Type 0
OneRepair = (t left : Topology) (old : Plan) (cables : List Cable) (lanes : ℕ) (kept others : List ℕ) (p q : Plan) → IsFabric t → 0 < lanes → taken_out t cables ≡ Ok left →
    IsNuePlan left lanes (Some old) kept p → IsNuePlan left lanes (Some old) others q → (kept ≡ others) × (p ≡ q)

-- and it has one
abbrev pub RepairExists : Type 0
RepairExists = (t left : Topology) (old : Plan) (cables : List Cable) (lanes : ℕ) → IsFabric t → PlanFits t old → 0 < lanes → lanes ≤ 15 → taken_out t cables ≡ Ok left →
    (kept : List ℕ) × (p : Plan) × IsNuePlan left lanes (Some old) kept p

-- the entries of a kept LID stay at every switch that is still connected to it, and its levels at every such source; at all other switches it has no route
pub record Stays (left : Topology) (old new : Plan) (lid : ℕ) : Type 0 where
  pub entries : (s : ℕ) → IsConnectedTo left s lid → entry new.tables s lid ≡ entry old.tables s lid
  pub levels : (s : ℕ) → IsSource left s → IsConnectedTo left s lid → old_level new.lanes s lid ≡ old_level old.lanes s lid
  pub apart : (s : ℕ) → ¬ IsConnectedTo left s lid → entry new.tables s lid ≡ 255

abbrev pub KeptStay : Type 0
KeptStay = (left : Topology) (old : Plan) (lanes : ℕ) (kept : List ℕ) (p : Plan) (lid : ℕ) → IsNuePlan left lanes (Some old) kept p → Contains kept lid → Stays left old p lid
