-- The first switches have the channels of the escape tree.
use Rattle.std.proofs.Common.{◌≡◌, ◌<◌, ℕ, length}
use Rattle.fab_tables.specs.Trees.{next}
use Rattle.fab_escape.specs.Forest.{escape_next}
use Rattle.fab_nue.proofs.forests.write_escape_tree.Given as goal

abbrev pub invariant-loop-s : goal.invariant-loop-s
invariant-loop-s l = record {
  whole : length l.tree ≡ length l.fabric.switches;
  written : (i : ℕ) → i < l.s → next l.tree i ≡ escape_next l.forest i l.to.0;
}
