use Rattle.std.proofs.Common.{◌≡◌, ℕ, List, sym, subst, ap, length, arith}
use Rattle.std.proofs.lemmas.List.FromFn.{length-range_with_len}
use Rattle.std.specs.List.{range_with_len}
use Rattle.fab_depgraph.specs.Order.{IsOrder, AreNumbers}
use Rattle.fab_depgraph.proofs.Ordering.Loops.{all_in_order, order_numbers}
use Rattle.fab_depgraph.proofs.order.Order.new.Goals as goal

pub invariant_of-result : goal.invariant_of-result
invariant_of-result c = (
  subst (λ (numbers : List ℕ). IsOrder numbers c.in_ok-all_below-2.field-0.items) (sym c.in_ok-all_below.ensures) (subst (IsOrder (range_with_len 0 c.args.channels)) (sym c.in_ok-all_below-2.ensures) (all_in_order c.args.channels)),
  omega (arith, ap (length {A = ℕ}) c.in_ok-all_below.ensures, length-range_with_len 0 c.args.channels, c.in_ok-with_capacity.ensures.capacity),
)

pub returns-clause-numbers : goal.returns-clause-numbers
returns-clause-numbers c =
    let own : c.in_ok-all_below.field-0.items ≡ range_with_len 0 c.args.channels = c.in_ok-all_below.ensures in
    subst AreNumbers (sym own) (order_numbers (range_with_len 0 c.args.channels) (range_with_len 0 c.args.channels) (all_in_order c.args.channels))
