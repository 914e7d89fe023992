-- The levels of a lane's paths over an edge go up by one, and no other changes.
use Rattle.std.specs.Prelude.{◌≡◌, ℕ, ◌+◌, Some, true}
use Rattle.fab_model.specs.Topology.{Topology}
use Rattle.fab_tables.specs.Entries.{Entries}
use Rattle.fab_tables.specs.LaneTables.{LaneTables, level}
use Rattle.fab_tables.specs.Route.{route}
use Rattle.fab_dfsssp.specs.Assignments.{contains_edge}

-- the level is that of the lane, and the route contains the edge
abbrev pub IsLevelOver : Topology → Entries → LaneTables → ℕ → ℕ × ℕ → ℕ → ℕ → Type 0
IsLevelOver t e l lane edge s lid = (level l s lid ≡ Some lane) × (contains_edge edge (route t e s lid).channels ≡ true)

pub record MovesLevels (t : Topology) (e : Entries) (lane : ℕ) (edge : ℕ × ℕ) (old new : LaneTables) : Type 0 where
  pub over : (s lid : ℕ) → IsLevelOver t e old lane edge s lid → level new s lid ≡ Some (lane + 1)
  pub stays : (s lid : ℕ) → ¬ IsLevelOver t e old lane edge s lid → level new s lid ≡ level old s lid
