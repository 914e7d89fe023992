use Rattle.std.proofs.Common.{◌∙◌, arith}
use Rattle.fab_nue.proofs.Searching.Trying.{still_searched, none_added, swap_as, least_pair}
use Rattle.fab_nue.proofs.swapping.swap_first.Goals as goal

pub swap_adding-requires-clause-tree : goal.swap_adding-requires-clause-tree
swap_adding-requires-clause-tree g c =
    still_searched c.args.fabric.now c.args.to.0 c.args.tree.now c.args.used.now c.loop-added.tree c.loop-added.used c.loop-added.invariant.stays c.loop-added.invariant.listed c.requires.tree

pub returns-then-swap_adding-clause-swapped : goal.returns-then-swap_adding-clause-swapped
returns-then-swap_adding-clause-swapped g c = λ e.
    let t = c.args.fabric.now in
    let to = c.args.to.0 in
    let found = c.swap_adding.ensures.swapped c.if-swap_adding.true in (
      c.loop-added.added,
      found.0,
      swap_as t to c.args.tree.now c.args.used.now c.loop-added.tree c.loop-added.used c.loop-added.invariant.stays c.loop-added.invariant.listed c.loop-added.invariant.spare
          c.swap_adding.new.tree c.swap_adding.new.used c.loop-added.added found.0 found.1,
      least_pair t to c.args.tree.now c.args.used.now c.loop-added.tree c.loop-added.used c.loop-added.invariant.stays c.loop-added.invariant.listed c.loop-added.added found.0
          (λ x y low. c.loop-added.invariant.none x y low) found.2,
    )

pub loop-added-preserved : goal.loop-added-preserved
loop-added-preserved g c =
    let e = c.if-swap_adding.false in
    record {
      stays = c.swap_adding.ensures.stays e ∙ c.loop-added.invariant.stays;
      listed = c.swap_adding.ensures.listed e ∙ c.loop-added.invariant.listed;
      spare = c.swap_adding.ensures.spare e ∙ c.loop-added.invariant.spare;
      channels = c.swap_adding.ensures.channels ∙ c.loop-added.invariant.channels;
      counted = omega (arith, c.swap_adding.ensures.counted, c.loop-added.invariant.counted);
      none = none_added c.args.fabric.now c.args.to.0 c.args.tree.now c.args.used.now c.loop-added.tree c.loop-added.used c.loop-added.invariant.stays c.loop-added.invariant.listed
          c.loop-added.added (c.swap_adding.ensures.none e) c.loop-added.invariant.none;
    }

pub returns-clause-none : goal.returns-clause-none
returns-clause-none g c = λ e x y allowed.
    c.loop-added.invariant.none x y (omega (arith, allowed.channel, c.loop-added-test.false, c.channels-added-end.ensures.count)) allowed
