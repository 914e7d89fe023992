-- The way from here passes the switch where the whole way does.
use Rattle.std.proofs.Common.{◌<◌, length}
use Rattle.fab_tables.specs.TreeWalks.{walk_of}
use Rattle.fab_nue.specs.Search.{Passes}
use Rattle.fab_nue.proofs.passing.passes.Given as goal

abbrev pub invariant-loop-other : goal.invariant-loop-other
invariant-loop-other l = record {
  low : l.at.0 < length l.fabric.switches;
  on : Passes l.fabric l.tree l.fn.from.0 l.other.0 → Passes l.fabric l.tree l.at.0 l.other.0;
  back : Passes l.fabric l.tree l.at.0 l.other.0 → Passes l.fabric l.tree l.fn.from.0 l.other.0;
}

abbrev pub decreases-loop-other : goal.decreases-loop-other
decreases-loop-other l = length (walk_of l.fabric l.tree l.at.0)
