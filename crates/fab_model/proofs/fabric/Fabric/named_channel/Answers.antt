use Rattle.std.proofs.Common.{◌≡◌, sym, ap, ◌∙◌}
use Rattle.std.specs.Prelude.{option_map}
use Rattle.fab_model.specs.Topology.{channel_id, channel_at}
use Rattle.fab_model.proofs.Cables.{named_at, named_nowhere, named_too_high, no_switch_of, switch_from_id, port_fits, port_too_high}
use Rattle.fab_model.proofs.fabric.Fabric.named_channel.Goals as goal

pub returns-in_err-switch : goal.returns-in_err-switch
returns-in_err-switch c =
    let are = c.requires.rows in
    c.from_residual.ensures ∙ sym (ap (option_map channel_id) (named_nowhere c.args.self.now are c.args.cable.now (no_switch_of _ c.in_err-switch.ensures)))

pub returns-in_err-port : goal.returns-in_err-port
returns-in_err-port c =
    let are = c.requires.rows in
    c.from_residual-in_err-port.ensures ∙ sym (ap (option_map channel_id) (named_too_high c.args.self.now are c.args.cable.now (port_too_high _ c.args.cable.now.port c.try_from.ensures c.in_err-port.ensures.value)))

pub returns : goal.returns
returns c =
    let are = c.requires.rows in
    let port : c.in_ok-port.port ≡ c.args.cable.now.port = port_fits _ c.args.cable.now.port c.in_ok-port.port c.try_from.ensures c.in_ok-port.ensures.value in
    let at = named_at c.args.self.now are c.args.cable.now c.in_ok-switch.switch.0 (switch_from_id _ c.in_ok-switch.switch c.in_ok-switch.ensures) in
    c.channel_at.ensures ∙ ap (option_map channel_id) (ap (channel_at c.args.self.now c.in_ok-switch.switch.0) port ∙ sym at)
