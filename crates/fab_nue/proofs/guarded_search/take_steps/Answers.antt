use Rattle.std.proofs.Common.{◌∙◌, ◌≤◌, length, arith}
use Rattle.fab_nue.specs.Laws.{settled_count}
use Rattle.fab_nue.proofs.Heaps.Ends.{each_switch, settled_joined, few_settled, under_way_still, impasse_here}
use Rattle.fab_nue.proofs.guarded_search.take_steps.Goals as goal

pub settle_all-requires-clause-under_way : goal.settle_all-requires-clause-under_way
settle_all-requires-clause-under_way g c =
    let r = c.requires.under_way in
    (r.0, c.loop-to.invariant.under_way r.0 r.1 r.2)

pub is_complete-requires-clause-tree : goal.is_complete-requires-clause-tree
is_complete-requires-clause-tree g c =
    let r = c.requires.under_way in
    each_switch _ _ _ _ _ _ _ (c.settle_all.ensures.under_way r.0 (c.loop-to.invariant.under_way r.0 r.1 r.2)) c.requires.fabric.rows

pub is_complete-requires-clause-connected : goal.is_complete-requires-clause-connected
is_complete-requires-clause-connected g c =
    let r = c.requires.under_way in
    settled_joined _ _ _ _ _ _ _ (c.settle_all.ensures.under_way r.0 (c.loop-to.invariant.under_way r.0 r.1 r.2)) c.requires.fabric.rows

pub returns-then-is_complete-clause-under_way : goal.returns-then-is_complete-clause-under_way
returns-then-is_complete-clause-under_way g c = λ before at u. c.settle_all.ensures.under_way before (c.loop-to.invariant.under_way before at u)

pub returns-then-is_complete-clause-end : goal.returns-then-is_complete-clause-end
returns-then-is_complete-clause-end g c = λ before at u. c.is_complete.ensures.complete c.if-is_complete.true

pub swap_least-requires-clause-under_way : goal.swap_least-requires-clause-under_way
swap_least-requires-clause-under_way g c =
    let r = c.requires.under_way in
    (r.0, r.1, c.settle_all.ensures.under_way r.0 (c.loop-to.invariant.under_way r.0 r.1 r.2))

pub returns-then-not-swap_least-clause-under_way : goal.returns-then-not-swap_least-clause-under_way
returns-then-not-swap_least-clause-under_way g c = λ before at u.
    let now = c.settle_all.ensures.under_way before (c.loop-to.invariant.under_way before at u) in
    let vain = c.swap_least.ensures.none c.if-not-swap_least.true before at now in
    under_way_still _ _ _ _ _ _ _ now c.settle_all.ensures.empty _ vain.1 _ _ vain.2 vain.3

pub returns-then-not-swap_least-clause-end : goal.returns-then-not-swap_least-clause-end
returns-then-not-swap_least-clause-end g c = λ before at u.
    let now = c.settle_all.ensures.under_way before (c.loop-to.invariant.under_way before at u) in
    let vain = c.swap_least.ensures.none c.if-not-swap_least.true before at now in
    impasse_here _ _ _ _ _ _ _ now c.settle_all.ensures.empty _ vain.1 vain.0 (c.is_complete.ensures.left c.if-is_complete.false)

pub loop-to-preserved : goal.loop-to-preserved
loop-to-preserved g c = record {
  under_way = λ before at u.
      (c.swap_least.ensures.swapped c.if-not-swap_least.false before at (c.settle_all.ensures.under_way before (c.loop-to.invariant.under_way before at u))).0;
  channels = c.swap_least.ensures.channels ∙ c.settle_all.ensures.channels ∙ c.loop-to.invariant.channels;
  room = c.swap_least.ensures.room ∙ c.settle_all.ensures.room ∙ c.loop-to.invariant.room;
  counted = omega (arith, c.swap_least.ensures.counted, c.settle_all.ensures.counted, c.loop-to.invariant.counted);
}

pub loop-to-smaller : goal.loop-to-smaller
loop-to-smaller g c =
    let r = c.requires.under_way in
    let swapped = c.swap_least.ensures.swapped c.if-not-swap_least.false r.0 r.1 (c.settle_all.ensures.under_way r.0 (c.loop-to.invariant.under_way r.0 r.1 r.2)) in
    let few : settled_count c.swap_least.new.tree ≤ length c.args.fabric.now.switches = few_settled _ _ _ _ _ _ _ swapped.0 c.requires.fabric.rows in
    omega (arith, few, swapped.1, c.settle_all.ensures.grows)
