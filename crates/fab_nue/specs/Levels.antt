-- The levels of Nue as a function of a source and a LID.
use Rattle.std.specs.Prelude.{◌≡◌, ℕ, ◌<◌, ◌==◌, List, Option, None, Some, if◌then◌else◌}
use Rattle.std.specs.List.{list_any}
use Rattle.fab_model.specs.Topology.{Topology}
use Rattle.fab_model.specs.Connected.{IsConnectedTo}
use Rattle.fab_tables.specs.declared.plan.Plan.{Plan}
use Rattle.fab_tables.specs.Fit.{IsSource}
use Rattle.fab_escape.specs.EscapeSet.{home}
use Rattle.fab_nue.specs.Kept.{old_level}
use Rattle.fab_nue.specs.NuePlan.{IsNueLevel}

-- that of the old plan where it keeps the LID, else the home lane
abbrev pub level_given : Topology → ℕ → Option Plan → List ℕ → ℕ → ℕ → Option ℕ
level_given t lanes None kept s lid = Some (home t lid lanes)
level_given t lanes (Some old) kept s lid = if list_any (λ one. one == lid) kept then old_level old.lanes s lid else Some (home t lid lanes)

-- each source has one for each LID connected to it, below the lane count
abbrev pub AreLevelsLow : Topology → ℕ → Option Plan → List ℕ → Type 0
AreLevelsLow t lanes old kept = (s lid : ℕ) → IsSource t s → IsConnectedTo t s lid → (n : ℕ) × (level_given t lanes old kept s lid ≡ Some n) × (n < lanes) × IsNueLevel t lanes old kept s lid n
