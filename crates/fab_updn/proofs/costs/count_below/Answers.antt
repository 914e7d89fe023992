use Rattle.std.proofs.Common.{length, arith, reverse}
use Rattle.std.proofs.lemmas.List.{length_push, length-reverse}
use Rattle.std.proofs.lemmas.Iterator.Adapters.{YieldsList-from_rev_slice}
use Rattle.std.proofs.lemmas.Iterator.Consumers.{YieldsList-turn, YieldsList-end}
use Rattle.fab_updn.proofs.Sequences.{downward}
use Rattle.fab_updn.proofs.Falling.{one_fallen_at, all_fallen}
use Rattle.fab_updn.proofs.costs.count_below.Goals as goal

pub cost_below-requires-clause-small : goal.cost_below-requires-clause-small
cost_below-requires-clause-small c =
    let turn = YieldsList-turn (YieldsList-from_rev_slice {s = c.into_iter-s-iterator.result} c.args.order.now cc) c.loop-s.yielded _ c.loop-s.yielded_by _ _ c.in-Some.s c.in-Some.is c.next.ensures.steps in
    λ s n e. omega (arith, c.loop-s.invariant.small s n e, turn.0, length-reverse c.args.order.now, c.requires.order.whole, c.requires.ranks, c.requires.fabric.rows.switch_count)

pub loop-s-preserved : goal.loop-s-preserved
loop-s-preserved c =
    let t = c.args.fabric.now in
    let order = c.args.order.now in
    let turn = YieldsList-turn (YieldsList-from_rev_slice {s = c.into_iter-s-iterator.result} order cc) c.loop-s.yielded _ c.loop-s.yielded_by _ _ c.in-Some.s c.in-Some.is c.next.ensures.steps in
    rw (length_push c.loop-s.yielded c.in-Some.s)
    (one_fallen_at t c.requires.fabric.rows c.args.ranks.now c.requires.ranks c.args.to.0 (reverse order) (downward c.args.ranks.now order c.requires.order) (length c.loop-s.yielded) c.loop-s.costs c.in-Some.s.now turn.0 turn.1 c.loop-s.invariant c.cost_below.result c.cost_below.ensures)

pub returns-clause-downs : goal.returns-clause-downs
returns-clause-downs c =
    let order = c.args.order.now in
    let end = YieldsList-end (YieldsList-from_rev_slice {s = c.into_iter-s-iterator.result} order cc) c.loop-s.yielded _ c.loop-s.yielded_by _ _ c.in-None.is c.next.ensures.steps in
    all_fallen c.args.fabric.now c.requires.fabric.rows c.args.ranks.now c.requires.ranks c.args.to.0 (reverse order) (downward c.args.ranks.now order c.requires.order) (length c.loop-s.yielded) c.loop-s.costs (omega (arith, end.1)) c.loop-s.invariant

pub returns-clause-small : goal.returns-clause-small
returns-clause-small c =
    let end = YieldsList-end (YieldsList-from_rev_slice {s = c.into_iter-s-iterator.result} c.args.order.now cc) c.loop-s.yielded _ c.loop-s.yielded_by _ _ c.in-None.is c.next.ensures.steps in
    λ s n e. omega (arith, c.loop-s.invariant.small s n e, end.1, length-reverse c.args.order.now, c.requires.order.whole, c.requires.ranks)
