use Rattle.std.proofs.Common.{◌≡◌, take, map, filter}
use Rattle.fab_model.specs.Records.{is_adapter}
use Rattle.fab_model.proofs.Made.Rows.{adapter_row}
use Rattle.fab_model.proofs.building.adapter_rows.Given as goal

abbrev pub invariant-loop-node : goal.invariant-loop-node
invariant-loop-node l = l.rows.items ≡ map adapter_row (filter (λ node. is_adapter node.kind) (take l.node-index l.raw.nodes))
