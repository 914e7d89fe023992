-- Lanes with the engines' maps whose levels are layers, before their numbers are written.
use Rattle.std.specs.Prelude.{ℕ, List}
use Rattle.fab_model.specs.Topology.{Topology}
use Rattle.fab_tables.specs.Entries.{Entries}
use Rattle.fab_tables.specs.Fit.{LanesFit}
use Rattle.fab_tables.specs.LaneTables.{LaneTables, HasLanePerLevel}
use Rattle.fab_certify.specs.EnginePlans.{HasLevels}
use Rattle.fab_depgraph.specs.Listed.{Dependencies}
use Rattle.fab_lash.specs.Layerings.{AreLayers}
use Rattle.fab_lash.specs.Layered.{IsLayerLevel, AreUsed}

pub record AreLayeredLanes (t : Topology) (e : Entries) (l : LaneTables) (used : List Dependencies) : Type 0 where
  pub layer : ℕ → ℕ → ℕ
  pub layers : AreLayers t e l.count layer
  pub lists : AreUsed t e l.count layer used
  pub fits : LanesFit t l
  pub maps : HasLanePerLevel l
  pub levels : HasLevels t l (λ s lid n. IsLayerLevel t layer s lid n)
