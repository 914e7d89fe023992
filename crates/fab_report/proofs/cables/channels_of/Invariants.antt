use Rattle.std.proofs.Common.{◌≡◌, take}
use Rattle.fab_report.proofs.Cabling.CableLists.{both_ways}
use Rattle.fab_report.proofs.cables.channels_of.Given as goal

abbrev pub invariant-loop-row : goal.invariant-loop-row
invariant-loop-row l = l.rows.items ≡ both_ways (take l.row-index l.cables)
