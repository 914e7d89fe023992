use Rattle.std.proofs.Common.{◌≡◌, take}
use Rattle.fab_dump.specs.Given.{with_lanes}
use Rattle.fab_dump.proofs.statements.set_map.Given as goal

abbrev pub invariant-loop-level : goal.invariant-loop-level
invariant-loop-level l = record {
  lanes : l.lanes ≡ with_lanes l.initial.lanes l.switch.0 0 (take l.level l.map);
  switches : l.lanes.switches ≡ l.initial.lanes.switches;
}
