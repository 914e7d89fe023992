use Rattle.std.proofs.Common.{◌≡◌, map, length, ◌∙◌}
use Rattle.std.specs.Prelude.{filter}
use Rattle.std.specs.List.{range_with_len}
use Rattle.fab_model.specs.declared.rows.Lid.{Lid}
use Rattle.fab_model.specs.Topology.{Topology}
use Rattle.fab_model.specs.Indexed.{has_place}
use Rattle.fab_model.proofs.Lids.{lids_from_places}
use Rattle.fab_model.proofs.indexes.Indexes.of_rows.Goals as goal

pub returns : goal.returns
returns c =
    let fabric : Topology = record { switches = c.args.switches.now; adapters = c.requires.0; channels = c.args.channels.now; terminals = c.args.terminals.now } in
    let places = c.in_ok-places.places.items in
    let placed : map (λ (lid : Lid). lid.0) c.in_ok-lids.lids.items ≡ filter (has_place places) (range_with_len 0 (length places)) = rw c.deref.ensures.value at c.in_ok-lids.ensures in
    record {
      channels_by_port = c.in_ok-channels_by_port.ensures;
      terminals_by_port = c.in_ok-terminals_by_port.ensures;
      first_channels = c.in_ok-first_channels.ensures;
      sources_by_switch = c.in_ok-sources_by_switch.ensures;
      places_by_lid = c.in_ok-places.ensures;
      lids_in_use = placed ∙ lids_from_places fabric places c.requires.1.rows c.in_ok-places.ensures;
    }
