use Rattle.std.specs.Prelude.{not}
use Rattle.fab_export.specs.Unfits.{has_first_map}
use Rattle.fab_export.proofs.FirstFound.{NoneBelow}
use Rattle.fab_export.proofs.unfit_lanes.other_map.Given as goal

abbrev pub invariant-loop-number : goal.invariant-loop-number
invariant-loop-number l = NoneBelow (λ s. not (has_first_map l.lanes s)) l.number
