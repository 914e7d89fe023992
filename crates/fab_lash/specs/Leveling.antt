-- Levels that are given to sources, LID by LID.
use Rattle.std.specs.Prelude.{◌≡◌, ℕ, ◌⊎◌, Some, None, option_map, unwrap_or}
use Rattle.fab_model.specs.declared.rows.Place.{Place}
use Rattle.fab_model.specs.Topology.{Topology, place_of}
use Rattle.fab_model.specs.Connected.{IsConnectedTo}
use Rattle.fab_tables.specs.Fit.{LanesFit, IsSource}
use Rattle.fab_tables.specs.LaneTables.{LaneTables, HasLanePerLevel, level}
use Rattle.fab_lash.specs.Layerings.{layer_of_two}

-- the layer of a source and the switch of a LID, 0 where the LID isn't in use
abbrev pub layer_for : Topology → (ℕ → ℕ → ℕ) → ℕ → ℕ → ℕ
layer_for t layer s lid = unwrap_or (option_map (λ (place : Place). layer_of_two layer s place.switch.0) (place_of t lid)) 0

-- a level is given to a source and a LID connected to it alone, and it is theirs
pub record IsLeveling (t : Topology) (given : ℕ → ℕ → ℕ) (l : LaneTables) : Type 0 where
  pub fits : LanesFit t l
  pub maps : HasLanePerLevel l
  pub only : (s lid : ℕ) → (level l s lid ≡ None) ⊎ ((level l s lid ≡ Some (given s lid)) × IsSource t s × IsConnectedTo t s lid)

-- a level that is given stays
abbrev pub KeepsLevels : (ℕ → ℕ → ℕ) → LaneTables → LaneTables → Type 0
KeepsLevels given old new = (s lid : ℕ) → level old s lid ≡ Some (given s lid) → level new s lid ≡ Some (given s lid)

-- each source that is connected to the LID has its level
abbrev pub HasLevelsFor : Topology → (ℕ → ℕ → ℕ) → LaneTables → ℕ → Type 0
HasLevelsFor t given l lid = (s : ℕ) → IsSource t s → IsConnectedTo t s lid → level l s lid ≡ Some (given s lid)
