-- A change over a fabric, as the search sees it.
use Rattle.fab_model.specs.Topology.{Topology}
use Rattle.fab_model.specs.WellFormed.{IsFabric}
use Rattle.fab_tables.specs.Fit.{PlanFits}
use Rattle.fab_tables.specs.declared.starts.Start.{Start}
use Rattle.fab_transit.specs.MixedWalks.{Change, Standing}

pub record Changing : Type 0 where
  pub fabric : Topology
  pub change : Change

-- both plans fit the fabric
pub record IsChanging (g : Changing) : Type 0 where
  pub fabric : IsFabric g.fabric
  pub before : PlanFits g.fabric g.change.before
  pub after : PlanFits g.fabric g.change.after

-- the switch and the port, as where a packet stands
abbrev pub standing_of : Start → Standing
standing_of here = record { at = here.switch.0; from = here.port }
