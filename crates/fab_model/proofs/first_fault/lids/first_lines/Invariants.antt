use Rattle.std.proofs.Common.{◌≡◌, ℕ, nat_eq, map, take}
use Rattle.std.specs.Prelude.{◌==◌, filter}
use Rattle.std.specs.HashMap.{get}
use Rattle.fab_model.specs.Records.{stated}
use Rattle.fab_model.specs.Faults.{least, node_lines}
use Rattle.fab_model.specs.FirstFault.{lesser}
use Rattle.fab_model.proofs.FirstFault.Lines.{claims_of_node, claims_of_link}
use Rattle.fab_model.proofs.first_fault.lids.first_lines.Given as goal

abbrev pub invariant-loop-node : goal.invariant-loop-node
invariant-loop-node l = (lid : ℕ) → get nat_eq l.lines lid ≡ least (map (λ node. node.line) (filter (claims_of_node (λ claim. claim.lid == lid)) (take l.node-index l.nodes)))

abbrev pub invariant-loop-link : goal.invariant-loop-link
invariant-loop-link l = (lid : ℕ) → get nat_eq l.lines lid ≡ lesser (least (node_lines (claims_of_node (λ claim. claim.lid == lid)) l.raw)) (least (map (λ one. one.link.line) (filter (claims_of_link (λ claim. claim.lid == lid)) (stated (record { nodes = l.nodes; links = take l.link-index l.links })))))
