use Rattle.std.proofs.Common.{◌≤◌}
use Rattle.fab_model.specs.Records.{last_line}
use Rattle.fab_tests.proofs.dump.switches_alone.Given as goal

abbrev pub invariant-loop-index : goal.invariant-loop-index
invariant-loop-index l = last_line l.raw ≤ l.index
