use Rattle.std.proofs.Common.{◌<◌}
use Rattle.fab_tests.proofs.tables.pairs.Given as goal

abbrev pub invariant-loop-from_port : goal.invariant-loop-from_port
invariant-loop-from_port g l = 0 < l.lanes.switches
