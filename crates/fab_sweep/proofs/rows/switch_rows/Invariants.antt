-- The rows of the switches so far.
use Rattle.std.proofs.Common.{map}
use Rattle.std.specs.List.{range_with_len}
use Rattle.fab_sweep.specs.Failures.{switch_failure}
use Rattle.fab_sweep.specs.Sweeps.{AreRowsOf}
use Rattle.fab_sweep.proofs.rows.switch_rows.Given as goal

abbrev pub invariant-loop-number : goal.invariant-loop-number
invariant-loop-number l = AreRowsOf l.fabric l.plan l.lanes (map (switch_failure l.fabric) (range_with_len 0 l.number)) l.rows.items
