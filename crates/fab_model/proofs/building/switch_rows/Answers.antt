use Rattle.std.proofs.Common.{◌≡◌, ◌≤◌, true, sym, ◌∙◌, ap, arith, rules, length}
use Rattle.std.proofs.lemmas.List.Sorted.{answers_always}
use Rattle.fab_model.specs.Records.{is_switch}
use Rattle.fab_model.specs.Faults.{port_limit, greatest_lid}
use Rattle.fab_model.proofs.Made.Bounds.{All-item, switch_lids, node_ports}
use Rattle.fab_model.proofs.Made.Rows.{is_switch-same, switch_rows-sorted}
use Rattle.fab_model.proofs.Lists.Sorted.{in_order-by_number}
use Rattle.fab_model.proofs.building.switch_rows.Goals as goal

pub overflow_cast-node : goal.overflow_cast-node
overflow_cast-node c =
    let kind : is_switch c.node-item.result.kind ≡ true = sym (is_switch-same c.node-item.result.kind) ∙ sym c.eq.ensures ∙ c.if-eq.true in
    let bound : c.node-item.result.lid ≤ greatest_lid =
    All-item (λ node. is_switch node.kind ≡ true → node.lid ≤ greatest_lid) c.args.raw.now.nodes c.nodes-node-items.result.now c.nodes-node-items.ensures.nodes
    (switch_lids c.args.raw.now c.requires) c.loop-node.node-index c.node-item.result c.loop-node-test.true c.node-item.is kind in
    omega arith

pub overflow_cast-node-then-eq : goal.overflow_cast-node-then-eq
overflow_cast-node-then-eq c =
    let bound : c.node-item.result.ports ≤ port_limit =
    All-item (λ node. node.ports ≤ port_limit) c.args.raw.now.nodes c.nodes-node-items.result.now c.nodes-node-items.ensures.nodes
    (node_ports c.args.raw.now c.requires) c.loop-node.node-index c.node-item.result c.loop-node-test.true c.node-item.is in
    omega arith

pub returns-clause-rows : goal.returns-clause-rows
returns-clause-rows c =
    let whole : length c.args.raw.now.nodes ≤ c.loop-node.node-index = omega (arith, ap length c.nodes-node-items.ensures.nodes) in
    let by_key = answers_always _ _ _ (λ f a r g h. search rules) in
    let sorted = in_order-by_number (λ row. row.guid) _ _ (c.in_ok-sort_by_key.ensures.sorted (λ row. row.guid) by_key) (c.in_ok-sort_by_key.ensures.stable (λ row. row.guid) by_key) in
    switch_rows-sorted c.args.raw.now c.loop-node.rows.items _ c.loop-node.node-index whole c.loop-node.invariant sorted
