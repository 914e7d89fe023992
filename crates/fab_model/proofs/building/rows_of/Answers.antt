use Rattle.std.proofs.Common.{List, ◌∙◌, ap}
use Rattle.fab_model.specs.declared.rows.SwitchRow.{SwitchRow}
use Rattle.fab_model.specs.declared.rows.AdapterRow.{AdapterRow}
use Rattle.fab_model.specs.Built.{topology_of}
use Rattle.fab_model.specs.Built as build
use Rattle.fab_model.proofs.Made.Links.{made_topology}
use Rattle.fab_model.proofs.building.rows_of.Goals as goal

pub returns-clause-rows : goal.returns-clause-rows
returns-clause-rows c =
    made_topology c.args.raw.now c.in_ok-switches.switches.items c.in_ok-adapters.adapters.items c.in_ok-channels.channels.items c.in_ok-terminals.terminals.items
    c.in_ok-switches.ensures.rows c.in_ok-adapters.ensures
    (c.in_ok-channels.ensures ∙ ap (λ (rows : List SwitchRow). build.channel_rows rows c.args.raw.now) c.deref.ensures.value)
    (c.in_ok-terminals.ensures ∙ ap (λ (rows : List SwitchRow). build.terminal_rows rows c.deref-3.result.now c.args.raw.now) c.deref-2.ensures.value ∙ ap (λ (rows : List AdapterRow). build.terminal_rows c.in_ok-switches.switches.items rows c.args.raw.now) c.deref-3.ensures.value)
