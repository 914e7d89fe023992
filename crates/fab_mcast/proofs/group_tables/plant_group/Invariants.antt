use Rattle.std.proofs.Common.{◌≡◌, ℕ, map, Vec, Global}
use Rattle.std.specs.List.{range_with_len}
use Rattle.fab_model.specs.declared.rows.TerminalId.{TerminalId}
use Rattle.fab_mcast.specs.GroupTrees.{group_ports}
use Rattle.fab_mcast.proofs.group_tables.plant_group.Given as goal

abbrev pub invariant-loop-s : goal.invariant-loop-s
invariant-loop-s l = map (λ (ports : Vec ℕ Global). ports.items) l.ports.items ≡ map (group_ports l.fabric l.escape (map (λ (id : TerminalId). id.0) l.members)) (range_with_len 0 l.s)
