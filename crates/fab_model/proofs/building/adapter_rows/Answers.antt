use Rattle.std.proofs.Common.{◌≤◌, ap, arith, rules, length}
use Rattle.std.proofs.lemmas.List.Sorted.{answers_always}
use Rattle.fab_model.specs.Faults.{port_limit}
use Rattle.fab_model.proofs.Made.Bounds.{All-item, node_ports}
use Rattle.fab_model.proofs.Made.Rows.{adapter_rows-sorted}
use Rattle.fab_model.proofs.Lists.Sorted.{in_order-by_number}
use Rattle.fab_model.proofs.building.adapter_rows.Goals as goal

pub overflow_cast-node : goal.overflow_cast-node
overflow_cast-node c =
    let bound : c.node-item.result.ports ≤ port_limit =
    All-item (λ node. node.ports ≤ port_limit) c.args.raw.now.nodes c.nodes-node-items.result.now c.nodes-node-items.ensures.nodes
    (node_ports c.args.raw.now c.requires) c.loop-node.node-index c.node-item.result c.loop-node-test.true c.node-item.is in
    omega arith

pub returns : goal.returns
returns c =
    let whole : length c.args.raw.now.nodes ≤ c.loop-node.node-index = omega (arith, ap length c.nodes-node-items.ensures.nodes) in
    let by_key = answers_always _ _ _ (λ f a r g h. search rules) in
    let sorted = in_order-by_number (λ row. row.guid) _ _ (c.in_ok-sort_by_key.ensures.sorted (λ row. row.guid) by_key) (c.in_ok-sort_by_key.ensures.stable (λ row. row.guid) by_key) in
    adapter_rows-sorted c.args.raw.now c.loop-node.rows.items _ c.loop-node.node-index whole c.loop-node.invariant sorted
