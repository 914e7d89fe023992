use Rattle.std.proofs.Common.{count_by, not}
use Rattle.fab_mcast.proofs.MarkedWays.{IsMarking}
use Rattle.fab_mcast.proofs.ways.mark_way.Given as goal

abbrev pub invariant-loop-passed : goal.invariant-loop-passed
invariant-loop-passed l = IsMarking l.fabric l.escape l.fn.from.0 l.home.0 l.fn.passed l.passed l.at.0

abbrev pub decreases-loop-passed : goal.decreases-loop-passed
decreases-loop-passed l = count_by not l.passed
