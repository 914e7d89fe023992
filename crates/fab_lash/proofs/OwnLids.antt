-- The own LID of a switch is in use.
use Rattle.std.proofs.Common.{◌≡◌, ℕ, ◌<◌, length, ap, subst, Some, Option, option_map, unwrap_or}
use Rattle.std.specs.Prelude.{slice_get, Contains}
use Rattle.fab_model.specs.declared.rows.SwitchRow.{SwitchRow}
use Rattle.fab_model.specs.Topology.{Topology, switch_id, lids_of}
use Rattle.fab_model.specs.WellFormed.{IsFabric}
use Rattle.fab_tables.specs.Entries.{Entries}
use Rattle.fab_tables.specs.Fit.{EntriesFit}
use Rattle.fab_tables.specs.Reaching.{IsToward}
use Rattle.fab_tables.proofs.Joined.Lids.{lid_in_use}
use Rattle.fab_lash.specs.Pairs.{own_lid}
use Rattle.fab_lash.proofs.LayersAcyclic.{own_place}

pub own_lid_of_row : (t : Topology) (s : ℕ) (row : SwitchRow) → slice_get t.switches s ≡ Some row → own_lid t s ≡ row.lid.0
own_lid_of_row t s row is = ap (λ (o : Option SwitchRow). unwrap_or (option_map (λ (row : SwitchRow). row.lid.0) o) 0) is

pub toward_switch : (t : Topology) (e : Entries) (s : ℕ) (row : SwitchRow) → IsFabric t → EntriesFit t e → s < length t.switches → slice_get t.switches s ≡ Some row → IsToward t e row.lid.0
toward_switch t e s row fabric fits low is = record {
  fabric = fabric;
  fits = fits;
  in_use = subst (λ lid. Contains (lids_of t) lid) (own_lid_of_row t s row is) (lid_in_use t (own_lid t s) (record { switch = switch_id s; port = 0 }) (own_place t s fabric.rows low));
}
