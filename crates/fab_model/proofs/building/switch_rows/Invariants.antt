use Rattle.std.proofs.Common.{◌≡◌, take, map, filter}
use Rattle.fab_model.specs.Records.{is_switch}
use Rattle.fab_model.proofs.Made.Rows.{switch_row}
use Rattle.fab_model.proofs.building.switch_rows.Given as goal

abbrev pub invariant-loop-node : goal.invariant-loop-node
invariant-loop-node l = l.rows.items ≡ map switch_row (filter (λ node. is_switch node.kind) (take l.node-index l.raw.nodes))
