-- Lanes with the engines' maps whose levels are those of the assignment at which the steps end.
use Rattle.std.specs.Prelude.{◌≡◌, ℕ}
use Rattle.fab_model.specs.Topology.{Topology}
use Rattle.fab_tables.specs.Entries.{Entries}
use Rattle.fab_tables.specs.Fit.{LanesFit}
use Rattle.fab_tables.specs.LaneTables.{LaneTables, HasLanePerLevel}
use Rattle.fab_certify.specs.EnginePlans.{HasLevels}
use Rattle.fab_dfsssp.specs.Breaking.{IsBroken}

pub record AreBrokenLanes (t : Topology) (e : Entries) (count : ℕ) (l : LaneTables) : Type 0 where
  pub lane_of : ℕ → ℕ → ℕ
  pub broken : IsBroken t e count lane_of
  pub lane_count : l.count ≡ count
  pub fits : LanesFit t l
  pub maps : HasLanePerLevel l
  pub levels : HasLevels t l (λ s lid n. n ≡ lane_of s lid)
