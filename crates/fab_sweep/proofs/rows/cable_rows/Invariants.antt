-- The rows of the cables of the channels so far.
use Rattle.std.proofs.Common.{take, map}
use Rattle.std.specs.Prelude.{filter}
use Rattle.std.specs.List.{enumerate_from}
use Rattle.fab_sweep.specs.Failures.{is_lower, cable_failure}
use Rattle.fab_sweep.specs.Sweeps.{AreRowsOf}
use Rattle.fab_sweep.proofs.rows.cable_rows.Given as goal

abbrev pub invariant-loop-number : goal.invariant-loop-number
invariant-loop-number l = AreRowsOf l.fabric l.plan l.lanes (map (cable_failure l.fabric) (filter (is_lower l.fabric) (take l.number (enumerate_from 0 l.fabric.channels)))) l.rows.items
