use Rattle.std.proofs.Common.{◌≡◌, ◌+◌, length, take, filter, vec_capacity}
use Rattle.std.proofs.lemmas.List.Filters.{FiltersInPlace}
use Rattle.fab_depgraph.specs.Order.{is_reached, is_unreached}
use Rattle.fab_depgraph.proofs.order.unreached_first.Given as goal

abbrev pub invariant-loop-at : goal.invariant-loop-at
invariant-loop-at l = record {
  kept : FiltersInPlace (is_unreached l.reached) l.initial.channels l.channels l.next l.at;
  moved : l.moved.items ≡ filter (is_reached l.reached) (take l.at l.initial.channels);
  capacity : vec_capacity l.moved ≡ vec_capacity l.initial.moved;
  count : l.next + length l.moved.items ≡ l.at;
}
