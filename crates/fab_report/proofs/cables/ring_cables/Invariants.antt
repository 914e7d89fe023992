use Rattle.std.proofs.Common.{◌≡◌, ◌+◌, map}
use Rattle.std.specs.Prelude.{◌%◌}
use Rattle.std.specs.List.{range_with_len}
use Rattle.fab_report.specs.Cabling.{cable}
use Rattle.fab_report.proofs.cables.ring_cables.Given as goal

abbrev pub invariant-loop-s : goal.invariant-loop-s
invariant-loop-s l = l.rows.items ≡ map (λ s. cable s 1 ((s + 1) % l.switches) 2) (range_with_len 0 l.s)
