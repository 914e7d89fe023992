use Rattle.std.proofs.Common.{◌<◌, length, subst, arith, Contains}
use Rattle.std.specs.Prelude.{IfSome}
use Rattle.fab_model.specs.declared.rows.TerminalRow.{TerminalRow}
use Rattle.fab_model.specs.Topology.{Topology}
use Rattle.fab_model.specs.WellFormed.{IsFabric}
use Rattle.fab_tables.specs.Fit.{LanesFit}
use Rattle.fab_tables.proofs.Joined.Lids.{connected_in_use}
use Rattle.fab_drain.proofs.packet_hops.way_to.Goals as goal

switch_low : (t : Topology) (row : TerminalRow) → IsFabric t → Contains t.terminals row → row.switch.0 < length t.switches
switch_low t row is has = subst (λ (r : TerminalRow). r.switch.0 < length t.switches) has.2 (is.rows.terminal_switches has.0 row has.1)

pub follow-requires-clause-switch : goal.follow-requires-clause-switch
follow-requires-clause-switch c = switch_low c.args.fabric.now c.args.terminal c.requires.fabric c.requires.path.terminal

pub follow-requires-clause-in_use : goal.follow-requires-clause-in_use
follow-requires-clause-in_use c = connected_in_use c.args.fabric.now c.args.terminal.switch.0 c.args.lid.0 c.requires.path.connected

pub level-requires : goal.level-requires
level-requires c =
    let fits : LanesFit c.args.fabric.now c.in-Some.lanes = subst (λ o. IfSome o (LanesFit c.args.fabric.now)) c.in-Some.is c.requires.fits.lanes in
    omega (arith, switch_low c.args.fabric.now c.args.terminal c.requires.fabric c.requires.path.terminal, fits.switches)

pub hops-requires-clause-switch : goal.hops-requires-clause-switch
hops-requires-clause-switch c = switch_low c.args.fabric.now c.args.terminal c.requires.fabric c.requires.path.terminal

pub hops-requires-clause-in_use : goal.hops-requires-clause-in_use
hops-requires-clause-in_use c = connected_in_use c.args.fabric.now c.args.terminal.switch.0 c.args.lid.0 c.requires.path.connected
