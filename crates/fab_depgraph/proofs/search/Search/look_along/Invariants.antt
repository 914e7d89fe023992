use Rattle.std.proofs.Common.{◌≡◌, ◌++◌, ◌+◌, length, slice_index}
use Rattle.fab_depgraph.specs.Search.{IsSearch, FindsMore, AreFound}
use Rattle.fab_depgraph.proofs.search.Search.look_along.Given as goal

abbrev pub invariant-loop-successor : goal.invariant-loop-successor
invariant-loop-successor g l = record {
  left : l.fn.successors ≡ l.yielded ++ l.successor-iterator;
  kept : IsSearch l.self;
  more : FindsMore l.initial.self l.self l.yielded l.order (slice_index l.order l.last.0);
  passes : AreFound l.self l.yielded l.order l.last.0 (slice_index l.order l.last.0);
  steps : l.steps ≡ l.initial.steps + length l.yielded;
}
