use Rattle.std.proofs.Common.{◌≡◌}
use Rattle.fab_report.proofs.Reporting.HopSums.{hops_below}
use Rattle.fab_report.proofs.rows.hops_to.Given as goal

abbrev pub invariant-loop-s : goal.invariant-loop-s
invariant-loop-s l = l.hops ≡ hops_below l.fabric l.tables l.lid.0 l.s
