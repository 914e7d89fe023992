use Rattle.std.proofs.Common.{rules, arith, ◌≡◌, ℕ, true, false, nat_eq, is_some, take, None, sym, ap, ◌∙◌}
use Rattle.std.specs.Prelude.{option_map}
use Rattle.std.specs.List.{list_any}
use Rattle.indexmap.specs.IndexMap.{get}
use Rattle.fab_model.specs.declared.raw.RawNode.{RawNode}
use Rattle.fab_model.specs.declared.fault.FabricFault.TheVariants.{TwiceGuid}
use Rattle.fab_model.specs.FirstFault.{is_of_kind}
use Rattle.fab_model.proofs.FirstFault.Lines.{node_lines_found}
use Rattle.fab_model.proofs.FirstFault.Repeats.{guid_turn}
use Rattle.fab_model.proofs.FirstFault.Guids.{by_guid_more, mapped_ok, none_there}
use Rattle.fab_model.proofs.first_fault.repeats.nodes_by_guid.Goals as goal

pub loop-node-init : goal.loop-node-init
loop-node-init c =
    let none : (guid : ℕ) → get nat_eq c.new-by_guid.result guid ≡ None = search rules in
    record {
      by_guid = record { some = λ guid. ap is_some (none guid); kinds = λ kind guid. ap (is_of_kind kind) (none guid) };
      told = search (rules, node_lines_found);
    }

pub returns-then-is_some-clause-found : goal.returns-then-is_some-clause-found
returns-then-is_some-clause-found c =
    let turn = guid_turn c.args.raw.now c.nodes-nodes.result.now c.loop-node.node-index c.node-item.result c.nodes-nodes.ensures.nodes c.nodes-nodes.ensures.kept (omega arith) c.node-item.is in
    let before = c.loop-node.by_guid in
    let guid = c.node-item.result.guid in
    let told = mapped_ok _ (λ old. old ≡ get nat_eq before guid) _ c.insert.result c.map_err.result c.in_ok-earlier.earlier c.map_err.ensures.cases c.in_ok-earlier.was c.insert.ensures.old c.insert.ensures.updates in
    let here : list_any (λ (other : RawNode). nat_eq other.guid guid) (take c.loop-node.node-index c.nodes-nodes.result.now) ≡ true =
    sym (c.loop-node.invariant.by_guid.some guid) ∙ ap is_some (sym told.0) ∙ sym c.is_some.ensures ∙ c.if-is_some.true in
    ap (option_map TwiceGuid) (c.loop-node.invariant.told ∙ ap (option_map (λ (node : RawNode). node.line)) (rw here at turn))

pub loop-node-preserved : goal.loop-node-preserved
loop-node-preserved c =
    let turn = guid_turn c.args.raw.now c.nodes-nodes.result.now c.loop-node.node-index c.node-item.result c.nodes-nodes.ensures.nodes c.nodes-nodes.ensures.kept (omega arith) c.node-item.is in
    let before = c.loop-node.by_guid in
    let guid = c.node-item.result.guid in
    let told = mapped_ok _ (λ old. old ≡ get nat_eq before guid) _ c.insert.result c.map_err.result c.in_ok-earlier.earlier c.map_err.ensures.cases c.in_ok-earlier.was c.insert.ensures.old c.insert.ensures.updates in
    let new : get nat_eq before guid ≡ None = sym told.0 ∙ none_there _ (sym c.is_some.ensures ∙ c.if-is_some.false) in
    let none : list_any (λ (other : RawNode). nat_eq other.guid guid) (take c.loop-node.node-index c.nodes-nodes.result.now) ≡ false =
    sym (c.loop-node.invariant.by_guid.some guid) ∙ ap is_some new in
    record {
      by_guid = by_guid_more c.nodes-nodes.result.now c.loop-node.node-index _ (omega arith) c.node-item.is before c.insert.new.self told.1.0 new c.loop-node.invariant.by_guid;
      told = c.loop-node.invariant.told ∙ ap (option_map (λ (node : RawNode). node.line)) (rw none at turn);
    }
