-- So many links up.
use Rattle.std.proofs.Common.{◌≡◌, ◌<◌, length}
use Rattle.fab_escape.specs.Forest.{climbed}
use Rattle.fab_escape.proofs.jumps.climb.Given as goal

abbrev pub invariant-loop : goal.invariant-loop
invariant-loop l = record {
  same : l.at ≡ climbed l.links l.counter l.fn.s;
  low : l.at < length l.links;
}
