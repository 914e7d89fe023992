use Rattle.std.proofs.Common.{◌≡◌, arith}
use Rattle.fab_netdiscover.specs.Writing.{adapter_port_line}
use Rattle.fab_netdiscover.proofs.Ports.{port_added, last_port, all_ports, no_ports}
use Rattle.fab_netdiscover.proofs.writing.push_adapter_ports.Goals as goal

pub loop-port-preserved : goal.loop-port-preserved
loop-port-preserved c = record {
  so_far = port_added (adapter_port_line c.args.fabric.now c.args.adapter) _ _ _ c.loop-port.port c.loop-port.auto.port c.loop-port.invariant.so_far c.in_ok-push_adapter_line.ensures;
  none = λ no. absurd (omega arith);
}

pub returns-in_ok-push_adapter_line : goal.returns-in_ok-push_adapter_line
returns-in_ok-push_adapter_line c =
    last_port (adapter_port_line c.args.fabric.now c.args.adapter) _ _ _ c.loop-port.port c.args.ports c.loop-port.auto.port (omega arith) c.loop-port.invariant.so_far c.in_ok-push_adapter_line.ensures

pub returns : goal.returns
returns c =
    let no : c.args.ports ≡ 0 = no_ports c.loop-port.port c.args.ports c.loop-port-test.false c.loop-port.auto.port-end in
    let first : c.loop-port.port ≡ 1 = c.loop-port.invariant.none no in
    all_ports (adapter_port_line c.args.fabric.now c.args.adapter) _ _ c.loop-port.port c.args.ports (omega arith) c.loop-port.invariant.so_far
