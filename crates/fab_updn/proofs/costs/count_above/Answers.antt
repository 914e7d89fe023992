use Rattle.std.proofs.Common.{◌∙◌, arith, length-set}
use Rattle.fab_updn.proofs.Sequences.{upward}
use Rattle.fab_updn.proofs.Rising.{one_risen, small_after, all_risen}
use Rattle.fab_updn.proofs.costs.count_above.Goals as goal

pub cost_above-requires-clause-small : goal.cost_above-requires-clause-small
cost_above-requires-clause-small c = λ s n e. omega (arith, c.loop-s.invariant.small s n e, c.requires.order.whole, c.requires.ranks, c.requires.fabric.rows.switch_count)

pub loop-s-preserved : goal.loop-s-preserved
loop-s-preserved c =
    let t = c.args.fabric.now in
    let ranks = c.args.ranks.now in
    let order = c.args.order.now in
    let is = upward ranks order c.requires.order in
    let whole = c.loop-s.invariant.whole in
    record {
      whole = length-set c.loop-s.costs _ c.cost_above.result ∙ whole;
      small = λ s n e. omega (arith, small_after t ranks c.requires.ranks order is c.loop-s.s-index c.loop-s.costs c.loop-s-test.true whole c.cost_above.result c.cost_above.ensures _ c.loop-s.invariant.small s n e);
      rising = λ to downs. one_risen t ranks c.requires.ranks order is c.loop-s.s-index c.loop-s.costs c.loop-s-test.true whole c.cost_above.result c.cost_above.ensures to (c.loop-s.invariant.rising to downs);
    }

pub returns : goal.returns
returns c = λ to downs. all_risen c.args.fabric.now c.args.ranks.now c.requires.ranks to c.args.order.now (upward c.args.ranks.now c.args.order.now c.requires.order) c.loop-s.s-index c.loop-s.costs (omega arith) c.loop-s.invariant.whole (c.loop-s.invariant.rising to downs)
