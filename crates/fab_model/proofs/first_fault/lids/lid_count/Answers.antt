use Rattle.std.proofs.Common.{rules, arith, true, false, ◌+◌, ap, sym, ◌∙◌}
use Rattle.std.specs.Prelude.{count_by}
use Rattle.std.proofs.lemmas.List.{take_all}
use Rattle.fab_model.specs.Records.{is_switch}
use Rattle.fab_model.proofs.FirstFault.Lids.{port_count, port_count_more, claims_count}
use Rattle.fab_model.proofs.first_fault.lids.lid_count.Goals as goal
use Rattle.fab_model.proofs.first_fault.lids.lid_count.Goals.{then-not-is_switch, else-not-is_switch}

pub loop-link-preserved : goal.loop-link-preserved
loop-link-preserved c =
    elim c.if-not-is_switch.branch [
      | then-not-is_switch w ↦
          let more = port_count_more c.nodes-nodes.result.now c.links-links.result.now c.loop-link.link-index c.index-nodes-link.result true (omega arith) (search rules) c.index-nodes-link.is (search rules) in
          record { counted = omega arith; within = omega arith }
      | else-not-is_switch w ↦
          let more = port_count_more c.nodes-nodes.result.now c.links-links.result.now c.loop-link.link-index c.index-nodes-link.result false (omega arith) (search rules) c.index-nodes-link.is (search rules) in
          record { counted = omega arith; within = omega arith }
    ]

pub returns : goal.returns
returns c =
    let raw = c.args.raw.now in
    let links = take_all c.loop-link.link-index c.links-links.result.now c.loop-link-test.false ∙ c.links-links.ensures.links in
    let ports = c.loop-link.invariant.counted ∙ ap (port_count c.nodes-nodes.result.now) links ∙ ap (λ nodes. port_count nodes raw.links) c.nodes-nodes.ensures.nodes in
    let switches = c.switch_count.ensures.count ∙ ap (count_by (λ node. is_switch node.kind)) c.nodes-nodes.ensures.nodes in
    ap (λ n. n + c.loop-link.ports) switches ∙ ap (λ n. count_by (λ node. is_switch node.kind) raw.nodes + n) ports ∙ sym (claims_count raw)
