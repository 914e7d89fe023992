use Rattle.std.proofs.Common.{◌≡◌, arith}
use Rattle.fab_netdiscover.specs.Writing.{switch_port_text}
use Rattle.fab_netdiscover.proofs.Ports.{port_added, last_port, all_ports, no_ports}
use Rattle.fab_netdiscover.proofs.writing.push_switch_ports.Goals as goal

pub loop-port-preserved : goal.loop-port-preserved
loop-port-preserved c = record {
  so_far = port_added (switch_port_text c.args.fabric.now c.args.switch.0) _ _ _ c.loop-port.port c.loop-port.auto.port c.loop-port.invariant.so_far c.in_ok-push_switch_port.ensures;
  none = λ no. absurd (omega arith);
}

pub returns-in_ok-push_switch_port : goal.returns-in_ok-push_switch_port
returns-in_ok-push_switch_port c =
    last_port (switch_port_text c.args.fabric.now c.args.switch.0) _ _ _ c.loop-port.port c.args.ports c.loop-port.auto.port (omega arith) c.loop-port.invariant.so_far c.in_ok-push_switch_port.ensures

pub returns : goal.returns
returns c =
    let no : c.args.ports ≡ 0 = no_ports c.loop-port.port c.args.ports c.loop-port-test.false c.loop-port.auto.port-end in
    let first : c.loop-port.port ≡ 1 = c.loop-port.invariant.none no in
    all_ports (switch_port_text c.args.fabric.now c.args.switch.0) _ _ c.loop-port.port c.args.ports (omega arith) c.loop-port.invariant.so_far
