-- A plan over a fabric, as it is read with lanes.
use Rattle.fab_model.specs.Topology.{Topology}
use Rattle.fab_model.specs.WellFormed.{IsFabric}
use Rattle.fab_tables.specs.Entries.{Entries}
use Rattle.fab_tables.specs.LaneTables.{LaneTables}
use Rattle.fab_tables.specs.Fit.{EntriesFit, LanesFit}

pub record Read : Type 0 where
  pub fabric : Topology
  pub entries : Entries
  pub lanes : LaneTables

pub record IsRead (r : Read) : Type 0 where
  pub fabric : IsFabric r.fabric
  pub entries : EntriesFit r.fabric r.entries
  pub lanes : LanesFit r.fabric r.lanes
