use Rattle.std.proofs.Common.{◌≡◌, Some, option_map, sym, ◌∙◌}
use Rattle.fab_model.specs.Topology.{terminal_id, terminal_at}
use Rattle.fab_tables.proofs.Paths.FallingRoutes.{place_below}
use Rattle.fab_export.proofs.LidPlaces.{numbered, guid_of_cabled, guid_of_own, no_guid}
use Rattle.fab_export.proofs.ListTests.{not_mapped}
use Rattle.fab_export.proofs.port_guids.port_guid_of.Goals as goal

pub terminal_at-requires : goal.terminal_at-requires
terminal_at-requires c = place_below c.args.fabric.now c.requires.rows c.args.lid.0 c.in-Some.place (sym c.in-Some.ensures)

pub switch-requires : goal.switch-requires
switch-requires c = place_below c.args.fabric.now c.requires.rows c.args.lid.0 c.in-Some.place (sym c.in-Some.ensures)

pub returns-in-Some-terminal_at : goal.returns-in-Some-terminal_at
returns-in-Some-terminal_at c =
    let there : option_map terminal_id (terminal_at c.args.fabric.now c.in-Some.place.switch.0 c.in-Some.place.port) ≡ Some c.in-Some-terminal_at.terminal = sym c.terminal_at.ensures ∙ c.in-Some-terminal_at.is in
    guid_of_cabled c.args.fabric.now c.requires c.args.lid.0 c.in-Some.place (sym c.in-Some.ensures) c.in-Some-terminal_at.terminal.0 c.terminal.result (numbered _ c.in-Some-terminal_at.terminal there) c.terminal.ensures

pub returns-in-None-terminal_at : goal.returns-in-None-terminal_at
returns-in-None-terminal_at c =
    guid_of_own c.args.fabric.now c.requires c.args.lid.0 c.in-Some.place (sym c.in-Some.ensures) c.switch.result.now (not_mapped terminal_id _ (sym c.terminal_at.ensures ∙ c.in-None-terminal_at.is)) c.switch.ensures

pub returns-in-None : goal.returns-in-None
returns-in-None c = no_guid c.args.fabric.now c.args.lid.0 (sym c.in-None.ensures)
