use Rattle.std.proofs.Common.{true, false, cond, Some, None, rules, arith, nat_eq, sym, ap, ◌∙◌, get_or}
use Rattle.std.specs.Prelude.{◌==◌}
use Rattle.std.specs.HashMap.{get}
use Rattle.std.proofs.lemmas.List.{take_all}
use Rattle.fab_model.specs.FirstFault.{lesser}
use Rattle.fab_model.specs.Faults.{least, node_lines}
use Rattle.fab_model.proofs.FirstFault.Lines.{claims_of_node, lesser-none, least_claim_lines}
use Rattle.fab_model.proofs.FirstFault.Stated.{no_link}
use Rattle.fab_model.proofs.FirstFault.Lids.{of_ports, of_switches_more, of_ports_more}
use Rattle.fab_model.proofs.first_fault.lids.first_lines.Goals as goal
use Rattle.fab_model.proofs.first_fault.lids.first_lines.Goals.{then-is_switch+in_ok-keep_first, else-is_switch, then-not-is_switch+in_ok-keep_first-2, else-not-is_switch}

pub loop-node-preserved : goal.loop-node-preserved
loop-node-preserved c = λ lid.
    let node = c.node-item.result in
    let here = c.loop-node.invariant lid in
    elim c.if-is_switch.branch [
      | then-is_switch+in_ok-keep_first w ↦
          let more = of_switches_more lid c.nodes-nodes.result.now c.loop-node.node-index node true (omega arith) c.node-item.is (search rules) in
          ap (λ lines. get nat_eq lines lid) w.lines-is ∙ w.in_ok-keep_first.ensures lid ∙ ap (λ first. lesser first (cond (node.lid == lid) (Some node.line) None)) here ∙ sym more
      | else-is_switch w ↦
          let more = of_switches_more lid c.nodes-nodes.result.now c.loop-node.node-index node false (omega arith) c.node-item.is (search rules) in
          ap (λ lines. get nat_eq lines lid) w.lines-is ∙ here ∙ sym (more ∙ lesser-none _)
    ]

pub loop-link-preserved : goal.loop-link-preserved
loop-link-preserved c = λ lid.
    let node = c.index-nodes-link.result in
    let link = get_or c.links-links.result.now c.loop-link.link-index no_link in
    let switches = least (node_lines (claims_of_node (λ claim. claim.lid == lid)) c.args.raw.now) in
    let here = c.loop-link.invariant lid in
    elim c.if-not-is_switch.branch [
      | then-not-is_switch+in_ok-keep_first-2 w ↦
          let more = of_ports_more lid c.nodes-nodes.result.now c.links-links.result.now c.loop-link.link-index node true (omega arith) (search rules) c.index-nodes-link.is (search rules) switches in
          ap (λ lines. get nat_eq lines lid) w.lines-is ∙ w.in_ok-keep_first-2.ensures lid ∙ ap (λ first. lesser first (cond (link.lid == lid) (Some link.line) None)) here ∙ sym more
      | else-not-is_switch w ↦
          let more = of_ports_more lid c.nodes-nodes.result.now c.links-links.result.now c.loop-link.link-index node false (omega arith) (search rules) c.index-nodes-link.is (search rules) switches in
          ap (λ lines. get nat_eq lines lid) w.lines-is ∙ here ∙ sym (more ∙ lesser-none _)
    ]

pub returns : goal.returns
returns c = λ lid.
    let raw = c.args.raw.now in
    let switches = least (node_lines (claims_of_node (λ claim. claim.lid == lid)) raw) in
    c.loop-link.invariant lid
    ∙ ap (λ links. lesser switches (of_ports lid c.nodes-nodes.result.now links)) (take_all c.loop-link.link-index c.links-links.result.now c.loop-link-test.false ∙ c.links-links.ensures.links)
    ∙ ap (λ nodes. lesser switches (of_ports lid nodes raw.links)) c.nodes-nodes.ensures.nodes
    ∙ sym (least_claim_lines (λ claim. claim.lid == lid) raw)
