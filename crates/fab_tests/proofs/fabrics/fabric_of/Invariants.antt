-- The last record stands on the last line, and its nodes are there.
use Rattle.std.proofs.Common.{◌≡◌, ◌≤◌, length}
use Rattle.fab_model.specs.Records.{last_line}
use Rattle.fab_tests.proofs.fabrics.fabric_of.Given as goal

abbrev pub invariant-loop-node : goal.invariant-loop-node
invariant-loop-node g l = record {
  line : last_line l.raw ≤ l.node;
  nodes : length l.raw.nodes ≡ l.node;
}

abbrev pub invariant-loop-one : goal.invariant-loop-one
invariant-loop-one g l = record {
  line : last_line l.raw ≤ l.line;
  nodes : length l.raw.nodes ≡ l.nodes;
}
