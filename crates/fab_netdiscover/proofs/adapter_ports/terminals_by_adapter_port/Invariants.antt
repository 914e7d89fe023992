use Rattle.std.proofs.Common.{take}
use Rattle.fab_netdiscover.specs.AdapterPorts.{FindsAmong}
use Rattle.fab_netdiscover.proofs.adapter_ports.terminals_by_adapter_port.Given as goal

abbrev pub invariant-loop-number : goal.invariant-loop-number
invariant-loop-number l = FindsAmong (take l.number l.fabric.terminals) l.by_port
