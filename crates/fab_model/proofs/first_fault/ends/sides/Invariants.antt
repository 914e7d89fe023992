use Rattle.std.proofs.Common.{◌≡◌, take}
use Rattle.std.specs.List.{list_any}
use Rattle.std.specs.HashSet.{contains}
use Rattle.fab_model.specs.declared.first_fault.ends.End.{End}
use Rattle.fab_model.specs.Records.{stated}
use Rattle.fab_model.specs.FirstFault.{ends_of, same_side}
use Rattle.fab_model.proofs.first_fault.ends.sides.Given as goal

abbrev pub invariant-loop-link : goal.invariant-loop-link
invariant-loop-link l = (side : End × End) → contains same_side l.sides side ≡ list_any (λ one. same_side (ends_of one) side) (stated (record { nodes = l.nodes; links = take l.link-index l.links }))
