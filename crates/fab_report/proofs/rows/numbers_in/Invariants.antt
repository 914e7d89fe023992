use Rattle.std.proofs.Common.{◌+◌, ◌*◌}
use Rattle.fab_report.proofs.Reporting.NumberCounts.{AreCounted}
use Rattle.fab_report.proofs.rows.numbers_in.Given as goal

abbrev pub invariant-loop-channel : goal.invariant-loop-channel
invariant-loop-channel l = AreCounted l.lanes.numbers (l.channel * 15) l.count l.most

abbrev pub invariant-loop-lane : goal.invariant-loop-lane
invariant-loop-lane l = AreCounted l.lanes.numbers (l.channel * 15 + l.lane) l.count l.most
