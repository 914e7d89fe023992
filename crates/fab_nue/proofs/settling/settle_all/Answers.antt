use Rattle.std.proofs.Common.{◌∙◌, arith}
use Rattle.fab_nue.proofs.settling.settle_all.Goals as goal

pub settle_next-requires-clause-under_way : goal.settle_next-requires-clause-under_way
settle_next-requires-clause-under_way g c = (c.requires.under_way.0, c.loop-to.invariant.under_way c.requires.under_way.0 c.requires.under_way.1)

pub loop-to-preserved : goal.loop-to-preserved
loop-to-preserved g c = record {
  under_way = λ start u. c.settle_next.ensures.under_way start (c.loop-to.invariant.under_way start u);
  grows = omega (arith, c.settle_next.ensures.grows, c.loop-to.invariant.grows);
  channels = c.settle_next.ensures.channels ∙ c.loop-to.invariant.channels;
  room = c.settle_next.ensures.room ∙ c.loop-to.invariant.room;
  counted = omega (arith, c.settle_next.ensures.counted, c.loop-to.invariant.counted);
}

pub returns-clause-under_way : goal.returns-clause-under_way
returns-clause-under_way g c = λ start u. c.settle_next.ensures.under_way start (c.loop-to.invariant.under_way start u)

pub returns-clause-grows : goal.returns-clause-grows
returns-clause-grows g c = omega (arith, c.settle_next.ensures.grows, c.loop-to.invariant.grows)
