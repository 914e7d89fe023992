use Rattle.std.proofs.Common.{map, take}
use Rattle.fab_model.specs.declared.rows.TerminalId.{TerminalId}
use Rattle.fab_mcast.specs.Ways.{IsMarkedTree}
use Rattle.fab_mcast.proofs.ways.mark_ways.Given as goal

abbrev pub invariant-loop-member : goal.invariant-loop-member
invariant-loop-member l = IsMarkedTree l.fabric l.escape (take l.member-index (map (λ (id : TerminalId). id.0) l.members)) l.homes.items l.passed.items
