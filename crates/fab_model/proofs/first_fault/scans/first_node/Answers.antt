use Rattle.std.proofs.Common.{rules}
use Rattle.fab_model.proofs.FirstFault.Lines.{node_lines_found}
use Rattle.fab_model.proofs.first_fault.scans.first_node.Goals as goal

pub loop-rest-init : goal.loop-rest-init
loop-rest-init g c = search (rules, node_lines_found)
