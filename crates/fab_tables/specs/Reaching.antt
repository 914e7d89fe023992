-- Routes to one LID, some of which are known to be delivered.
use Rattle.std.specs.Prelude.{◌≡◌, ℕ, ◌<◌, List, length, Contains, Option, Some, None, slice_index_or}
use Rattle.fab_model.specs.declared.rows.SwitchId.{SwitchId}
use Rattle.fab_model.specs.Topology.{Topology, lids_of}
use Rattle.fab_model.specs.WellFormed.{IsFabric}
use Rattle.fab_tables.specs.declared.end.End.TheVariants.{Delivered}
use Rattle.fab_tables.specs.Entries.{Entries}
use Rattle.fab_tables.specs.Fit.{EntriesFit}
use Rattle.fab_tables.specs.Route.{route}

-- the entries of a fabric, and one of its LIDs
pub record IsToward (t : Topology) (e : Entries) (lid : ℕ) : Type 0 where
  pub fabric : IsFabric t
  pub fits : EntriesFit t e
  pub in_use : Contains (lids_of t) lid

-- each switch that is marked has a delivered route, and its mark is a switch below this one
pub record AreDelivered (t : Topology) (e : Entries) (lid below : ℕ) (marks : List (Option SwitchId)) : Type 0 where
  pub room : length marks ≡ length t.switches
  pub delivered : (s : ℕ) (first : SwitchId) → slice_index_or marks s None ≡ Some first → (first.0 < below) × ((route t e s lid).end ≡ Delivered)
