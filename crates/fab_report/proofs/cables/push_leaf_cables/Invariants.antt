use Rattle.std.proofs.Common.{◌≡◌, ◌-◌, ◌++◌, ◌+◌, map}
use Rattle.std.specs.List.{range_with_len}
use Rattle.fab_report.specs.Cabling.{cable}
use Rattle.fab_report.proofs.cables.push_leaf_cables.Given as goal

abbrev pub invariant-loop-top : goal.invariant-loop-top
invariant-loop-top l = l.rows.items ≡ l.initial.rows.items ++ map (λ port. cable l.leaf port (l.leaves + port - 1) (l.leaf + 1)) (range_with_len 1 l.top)
