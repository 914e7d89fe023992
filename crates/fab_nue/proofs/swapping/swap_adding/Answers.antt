use Rattle.std.proofs.Common.{◌∙◌, refl, sym, arith}
use Rattle.fab_depgraph.specs.Listed.{IsListed}
use Rattle.fab_sssp.proofs.Raising.TreePassing.{tip_read}
use Rattle.fab_sssp.proofs.Walks.LeastChannels.{tip_within}
use Rattle.fab_nue.proofs.Searching.Trying.{tail_is, turned_between, still_searched, none_turned, swap_as}
use Rattle.fab_nue.proofs.swapping.swap_adding.Goals as goal

pub crosses-requires-clause-tree : goal.crosses-requires-clause-tree
crosses-requires-clause-tree g c = c.requires.tree.is_tree.each_switch

pub leaves-first-requires : goal.leaves-first-requires
leaves-first-requires g c = tip_within c.args.fabric.now c.requires.fabric.rows c.args.added.0 c.tip-at.result c.tip-at.ensures

pub loop-turned-init : goal.loop-turned-init
loop-turned-init g c = record {
  stays = refl;
  listed = refl;
  spare = refl;
  channels = refl;
  counted = omega arith;
  none = λ d low x.
      let between = turned_between c.args.fabric.now c.requires.fabric.rows (IsListed c.args.used.now.listed) c.args.to.0 c.args.tree.now c.tip-at.result.0 c.args.added.0 d
      (tip_read c.args.fabric.now c.args.added.0 c.tip-at.result c.tip-at.ensures) x in
      omega (arith, low, between.0, c.leaves-first.ensures.first);
}

pub swap_pair-requires-clause-tree : goal.swap_pair-requires-clause-tree
swap_pair-requires-clause-tree g c =
    still_searched c.args.fabric.now c.args.to.0 c.args.tree.now c.args.used.now c.loop-turned.tree c.loop-turned.used c.loop-turned.invariant.stays c.loop-turned.invariant.listed c.requires.tree

pub swap_pair-requires-clause-turned : goal.swap_pair-requires-clause-turned
swap_pair-requires-clause-turned g c = omega (arith, c.loop-turned-test.true, c.leaves-first.ensures.within)

pub swap_pair-requires-clause-there : goal.swap_pair-requires-clause-there
swap_pair-requires-clause-there g c =
    let t = c.args.fabric.now in
    let n = c.loop-turned.turned in
    tail_is t c.requires.fabric.rows c.tip-at.result.0 n (omega (arith, c.loop-turned-test.true, c.leaves-first.ensures.within)) (omega (arith, c.loop-turned.auto.turned, c.leaves-first.ensures.first))
    (omega (arith, c.loop-turned-test.true, c.leaves-first.ensures.past)) ∙ sym (tip_read t c.args.added.0 c.tip-at.result c.tip-at.ensures)

pub returns-then-swap_pair-clause-swapped : goal.returns-then-swap_pair-clause-swapped
returns-then-swap_pair-clause-swapped g c = λ e. (
  c.loop-turned.turned,
  swap_as c.args.fabric.now c.args.to.0 c.args.tree.now c.args.used.now c.loop-turned.tree c.loop-turned.used c.loop-turned.invariant.stays c.loop-turned.invariant.listed c.loop-turned.invariant.spare
      c.swap_pair.new.tree c.swap_pair.new.used c.args.added.0 c.loop-turned.turned (c.swap_pair.ensures.swapped c.if-swap_pair.true),
  c.loop-turned.invariant.none,
)

pub loop-turned-preserved : goal.loop-turned-preserved
loop-turned-preserved g c =
    let e = c.if-swap_pair.false in
    record {
      stays = c.swap_pair.ensures.stays e ∙ c.loop-turned.invariant.stays;
      listed = c.swap_pair.ensures.listed e ∙ c.loop-turned.invariant.listed;
      spare = c.swap_pair.ensures.spare e ∙ c.loop-turned.invariant.spare;
      channels = c.swap_pair.ensures.channels ∙ c.loop-turned.invariant.channels;
      counted = omega (arith, c.swap_pair.ensures.counted, c.loop-turned.invariant.counted);
      none = none_turned c.args.fabric.now c.args.to.0 c.args.tree.now c.args.used.now c.loop-turned.tree c.loop-turned.used c.loop-turned.invariant.stays c.loop-turned.invariant.listed
          c.args.added.0 c.loop-turned.turned (c.swap_pair.ensures.refused e) c.loop-turned.invariant.none;
    }

pub returns-clause-none : goal.returns-clause-none
returns-clause-none g c = λ e d x.
    let between = turned_between c.args.fabric.now c.requires.fabric.rows (IsListed c.args.used.now.listed) c.args.to.0 c.args.tree.now c.tip-at.result.0 c.args.added.0 d
    (tip_read c.args.fabric.now c.args.added.0 c.tip-at.result c.tip-at.ensures) x in
    c.loop-turned.invariant.none d (omega (arith, between.1, c.loop-turned-test.false, c.leaves-first.ensures.past)) x
