use Rattle.std.proofs.Common.{◌≡◌, take, drop}
use Rattle.std.specs.Prelude.{find, option_map}
use Rattle.fab_model.specs.Faults.{least, node_lines, repeats_guid}
use Rattle.fab_model.specs.FirstFault.{AreByGuid}
use Rattle.fab_model.proofs.first_fault.repeats.nodes_by_guid.Given as goal

abbrev pub invariant-loop-node : goal.invariant-loop-node
invariant-loop-node l = record {
  by_guid : AreByGuid (take l.node-index l.nodes) l.by_guid;
  told : least (node_lines (repeats_guid l.raw) l.raw) ≡ option_map (λ node. node.line) (find (repeats_guid l.raw) (drop l.node-index l.nodes));
}
