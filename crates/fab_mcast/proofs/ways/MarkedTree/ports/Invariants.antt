use Rattle.std.proofs.Common.{◌≡◌, ◌-◌, map}
use Rattle.std.specs.Prelude.{filter, ◌||◌}
use Rattle.std.specs.List.{range_with_len}
use Rattle.fab_model.specs.declared.rows.TerminalId.{TerminalId}
use Rattle.fab_mcast.specs.GroupTrees.{is_member_port, is_tree_port}
use Rattle.fab_mcast.proofs.ways.MarkedTree.ports.Given as goal

abbrev pub invariant-loop-port : goal.invariant-loop-port
invariant-loop-port l = l.ports.items ≡ filter (λ port. is_member_port l.fabric (map (λ (id : TerminalId). id.0) l.members) l.s.0 port || is_tree_port l.fabric l.escape (map (λ (id : TerminalId). id.0) l.members) l.s.0 port) (range_with_len 1 (l.port - 1))
