use Rattle.std.proofs.Common.{◌≡◌, ◌-◌, ◌++◌}
use Rattle.std.specs.List.{flat_map, range_with_len}
use Rattle.fab_netdiscover.specs.Writing as writing
use Rattle.fab_netdiscover.proofs.writing.push_switch_ports.Given as goal

abbrev pub invariant-loop-port : goal.invariant-loop-port
invariant-loop-port l = record {
  so_far : l.text.items ≡ l.initial.text.items ++ flat_map (writing.switch_port_text l.fabric l.switch.0) (range_with_len 1 (l.port - 1));
  none : l.ports ≡ 0 → l.port ≡ 1;
}
