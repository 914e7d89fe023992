-- The landings of the depths so far.
use Rattle.std.proofs.Common.{◌≡◌, length}
use Rattle.fab_escape.specs.Climbing.{AreLandings}
use Rattle.fab_escape.proofs.jumps.landings_of.Given as goal

abbrev pub invariant-loop-depth : goal.invariant-loop-depth
invariant-loop-depth l = record {
  each : length l.landings.items ≡ l.depth;
  above : AreLandings l.landings.items;
}
