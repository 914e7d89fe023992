use Rattle.std.proofs.Common.{◌≡◌, rules, nat_eq, sym, ap, ◌∙◌}
use Rattle.std.specs.Prelude.{◌&&◌}
use Rattle.std.specs.HashMap.{get}
use Rattle.fab_model.specs.Records.{is_switch, is_adapter}
use Rattle.fab_model.specs.Faults.{repeats_lid}
use Rattle.fab_model.specs.FirstFault.{lesser, is_later}
use Rattle.fab_model.proofs.FirstFault.Lines.{claims_of_node, claims_of_link, least_claim_lines}
use Rattle.fab_model.proofs.FirstFault.Lids.{repeats_where_later}
use Rattle.fab_model.proofs.first_fault.lids.repeated_lid.Goals as goal

pub returns : goal.returns
returns c =
    let raw = c.args.raw.now in
    let lines = c.in_ok-lines.lines in
    let switch = c.first_node-switch.ensures (claims_of_node (repeats_lid raw)) (λ node answer told.
    let tested : answer ≡ (is_switch node.now.kind && is_later (get nat_eq lines node.now.lid) node.now.line) = search rules in
    let repeats = sym (repeats_where_later raw (record { line = node.now.line; lid = node.now.lid; lmc = node.now.lmc })) in
    tested ∙ ap (λ first. is_switch node.now.kind && is_later first node.now.line) (c.in_ok-lines.ensures node.now.lid) ∙ ap (λ b. is_switch node.now.kind && b) repeats) in
    let port = c.first_link-port.ensures (claims_of_link (repeats_lid raw)) (λ node link answer told.
    let tested : answer ≡ (is_adapter node.now.kind && is_later (get nat_eq lines link.now.lid) link.now.line) = search rules in
    let repeats = sym (repeats_where_later raw (record { line = link.now.line; lid = link.now.lid; lmc = link.now.lmc })) in
    tested ∙ ap (λ first. is_adapter node.now.kind && is_later first link.now.line) (c.in_ok-lines.ensures link.now.lid) ∙ ap (λ b. is_adapter node.now.kind && b) repeats) in
    c.lesser.ensures
    ∙ ap (λ line. lesser line c.first_link-port.result) switch
    ∙ ap (lesser _) port
    ∙ sym (least_claim_lines (repeats_lid raw) raw)
