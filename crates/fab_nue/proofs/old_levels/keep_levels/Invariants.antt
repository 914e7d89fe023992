-- The sources so far keep their levels.
use Rattle.std.proofs.Common.{◌<◌, ℕ}
use Rattle.fab_model.specs.Connected.{IsConnectedTo}
use Rattle.fab_tables.specs.Fit.{IsSource}
use Rattle.fab_nue.specs.Kept.{KeepsLevel}
use Rattle.fab_nue.proofs.old_levels.keep_levels.Given as goal

abbrev pub invariant-loop-s : goal.invariant-loop-s
invariant-loop-s l = (x : ℕ) → x < l.s → IsSource l.fabric x → IsConnectedTo l.fabric x l.lid.0 → KeepsLevel l.fabric l.lanes l.old x l.lid.0
