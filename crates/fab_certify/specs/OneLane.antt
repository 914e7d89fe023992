-- The lanes of a plan that has none: the engines' maps for one lane, with a level given to each source, LID by LID.
use Rattle.std.specs.Prelude.{◌≡◌, ℕ, ◌⊎◌, Some, None}
use Rattle.fab_model.specs.Topology.{Topology}
use Rattle.fab_model.specs.Connected.{IsConnectedTo}
use Rattle.fab_tables.specs.Fit.{LanesFit, IsSource}
use Rattle.fab_tables.specs.LaneTables.{LaneTables, HasLanePerLevel, level}

-- a level is given to a source and a LID connected to it alone, and it is 0
pub record IsLeveling (t : Topology) (l : LaneTables) : Type 0 where
  pub fits : LanesFit t l
  pub count : l.count ≡ 1
  pub maps : HasLanePerLevel l
  pub only : (s lid : ℕ) → (level l s lid ≡ None) ⊎ ((level l s lid ≡ Some 0) × IsSource t s × IsConnectedTo t s lid)

-- a level that is given stays
abbrev pub KeepsLevels : LaneTables → LaneTables → Type 0
KeepsLevels old new = (s lid : ℕ) → level old s lid ≡ Some 0 → level new s lid ≡ Some 0

-- each source that is connected to the LID has its level
abbrev pub HasLevelsFor : Topology → LaneTables → ℕ → Type 0
HasLevelsFor t l lid = (s : ℕ) → IsSource t s → IsConnectedTo t s lid → level l s lid ≡ Some 0
