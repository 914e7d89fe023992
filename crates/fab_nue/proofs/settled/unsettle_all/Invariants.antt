-- The switches so far have no channel.
use Rattle.std.proofs.Common.{◌≡◌, ◌<◌, ℕ, None, length}
use Rattle.fab_tables.specs.Trees.{next}
use Rattle.fab_nue.proofs.settled.unsettle_all.Given as goal

abbrev pub invariant-loop-s : goal.invariant-loop-s
invariant-loop-s l = record {
  whole : length l.tree ≡ length l.fabric.switches;
  none : (i : ℕ) → i < l.s → next l.tree i ≡ None;
}
