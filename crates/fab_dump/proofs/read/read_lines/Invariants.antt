use Rattle.std.proofs.Common.{◌≤◌, ◌-◌, ◌+◌, length, drop}
use Rattle.std.specs.Str.Lines.{lines}
use Rattle.fab_model.specs.Topology.{Topology}
use Rattle.fab_dump.specs.Lines.{Form, State}
use Rattle.fab_dump.specs.Orderly.{IsOrderly}
use Rattle.fab_dump.specs.Reading.{read_lines}
use Rattle.fab_dump.specs.Standing.{Stands}
use Rattle.fab_dump.proofs.Reading.PlanRead.{Reads}
use Rattle.fab_dump.proofs.read.read_lines.Given as goal

abbrev pub invariant-loop-found : goal.invariant-loop-found
invariant-loop-found l = record {
  within : l.from ≤ length l.text;
  few : l.line ≤ l.from;
  reads : (t : Topology) (f : Form) (s : State) → Stands t f s l.fn.reader → IsOrderly t f s →
      Reads f l.text l.from l.line l.reader (read_lines t f (l.fn.line + 1) s (lines (drop l.fn.from l.text)));
}

abbrev pub decreases-loop-found : goal.decreases-loop-found
decreases-loop-found l = length l.text - l.from
