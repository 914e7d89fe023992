-- The switch stands on the way up from the destination, at it or deeper than where the way begins.
use Rattle.std.proofs.Common.{◌<◌, length}
use Rattle.fab_escape.specs.Climbing.{depth_at}
use Rattle.fab_escape.proofs.LinksInto.{StandsBelow}
use Rattle.fab_escape.proofs.escape.Escape.link_into.Given as goal

abbrev pub invariant-loop-link : goal.invariant-loop-link
invariant-loop-link l = record {
  stands : StandsBelow l.self l.self-inside.depths.items l.from.0 l.fn.to.0 l.at;
  low : l.at < length l.self.links;
}

abbrev pub decreases-loop-link : goal.decreases-loop-link
decreases-loop-link l = depth_at l.self-inside.depths.items l.at
