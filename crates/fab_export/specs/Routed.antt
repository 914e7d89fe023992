-- Tables over a fabric, whose routes all reach.
use Rattle.fab_model.specs.Topology.{Topology}
use Rattle.fab_model.specs.WellFormed.{IsFabric}
use Rattle.fab_tables.specs.Entries.{Entries}
use Rattle.fab_tables.specs.Certified.{Reaches}
use Rattle.fab_tables.specs.Fit.{EntriesFit}

pub record Routed : Type 0 where
  pub fabric : Topology
  pub entries : Entries

pub record IsRouted (r : Routed) : Type 0 where
  pub fabric : IsFabric r.fabric
  pub entries : EntriesFit r.fabric r.entries
  pub reaches : Reaches r.fabric r.entries
