use Rattle.std.proofs.Common.{take}
use Rattle.fab_rings.specs.Nearness.{ReachesTails}
use Rattle.fab_dfsssp.proofs.nearness.reach_tails.Given as goal

abbrev pub invariant-loop-tail : goal.invariant-loop-tail
invariant-loop-tail l = ReachesTails (take l.tail-index l.tails) l.distance l.initial.near l.near l.initial.next.items l.next.items
