use Rattle.std.proofs.Common.{◌≡◌, Bool, length}
use Rattle.std.specs.Prelude.{find, option_map}
use Rattle.fab_model.specs.declared.raw.RawNode.{RawNode}
use Rattle.fab_model.specs.Faults.{least, node_lines}
use Rattle.fab_model.specs.FirstFault.{TestsNodes}
use Rattle.fab_model.proofs.first_fault.scans.first_node.Given as goal

abbrev pub invariant-loop-rest : goal.invariant-loop-rest
invariant-loop-rest g l = (test : RawNode → Bool) → TestsNodes g.F.Fn l.passes test → least (node_lines test l.fn.raw) ≡ option_map (λ node. node.line) (find test l.rest)

abbrev pub decreases-loop-rest : goal.decreases-loop-rest
decreases-loop-rest g l = length l.rest
