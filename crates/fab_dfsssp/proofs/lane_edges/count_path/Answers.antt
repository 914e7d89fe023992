use Rattle.std.proofs.Common.{arith, ◌∙◌, ℕ}
use Rattle.fab_tables.proofs.Paths.Ways.{goes_on, channel_low}
use Rattle.fab_dfsssp.proofs.Counting.{one_there}
use Rattle.fab_dfsssp.proofs.PathsCounted.{first_channel, next_channel}
use Rattle.fab_dfsssp.proofs.lane_edges.count_path.Goals as goal

pub raise-requires-clause-head : goal.raise-requires-clause-head
raise-requires-clause-head c =
    omega (
      arith,
      c.loop-channel.invariant.3,
      c.requires.nodes,
      channel_low c.args.fabric.now c.args.tables.now c.args.path.lid.0 c.requires.toward c.args.path.from.0 c.loop-channel.channel-iterator c.next.new.self c.in-Some.channel c.loop-channel.invariant.2 c.in-Some.ensures.steps,
    )

pub raise-requires-clause-fits : goal.raise-requires-clause-fits
raise-requires-clause-fits c =
    let edge : ℕ × ℕ = (c.in-Some-before.first.0, c.in-Some.channel.0) in
    omega (
      arith,
      c.loop-channel.invariant.6 edge,
      c.requires.room edge,
      next_channel edge c.loop-channel.before c.in-Some-before.first c.in-Some.channel c.loop-channel.channel-iterator.channels c.next.new.self.channels c.in-Some-before.is c.in-Some.ensures.steps.0,
      one_there edge,
    )

pub loop-channel-preserved-in_ok-raise : goal.loop-channel-preserved-in_ok-raise
loop-channel-preserved-in_ok-raise c = (
  tt,
  tt,
  goes_on c.args.fabric.now c.args.tables.now c.args.path.lid.0 c.requires.toward c.args.path.from.0 c.loop-channel.channel-iterator c.next.new.self c.in-Some.channel c.loop-channel.invariant.2 c.in-Some.ensures.steps,
  c.in_ok-raise.ensures.nodes ∙ c.loop-channel.invariant.3,
  c.in_ok-raise.ensures.whole,
  channel_low c.args.fabric.now c.args.tables.now c.args.path.lid.0 c.requires.toward c.args.path.from.0 c.loop-channel.channel-iterator c.next.new.self c.in-Some.channel c.loop-channel.invariant.2 c.in-Some.ensures.steps,
  λ edge. omega (
    arith,
    c.in_ok-raise.ensures.times edge,
    c.loop-channel.invariant.6 edge,
    next_channel edge c.loop-channel.before c.in-Some-before.first c.in-Some.channel c.loop-channel.channel-iterator.channels c.next.new.self.channels c.in-Some-before.is c.in-Some.ensures.steps.0,
  ),
)

pub loop-channel-preserved : goal.loop-channel-preserved
loop-channel-preserved c = (
  tt,
  tt,
  goes_on c.args.fabric.now c.args.tables.now c.args.path.lid.0 c.requires.toward c.args.path.from.0 c.loop-channel.channel-iterator c.next.new.self c.in-Some.channel c.loop-channel.invariant.2 c.in-Some.ensures.steps,
  c.loop-channel.invariant.3,
  c.loop-channel.invariant.4,
  channel_low c.args.fabric.now c.args.tables.now c.args.path.lid.0 c.requires.toward c.args.path.from.0 c.loop-channel.channel-iterator c.next.new.self c.in-Some.channel c.loop-channel.invariant.2 c.in-Some.ensures.steps,
  λ edge. omega (
    arith,
    c.loop-channel.invariant.6 edge,
    first_channel edge c.loop-channel.before c.in-Some.channel c.loop-channel.channel-iterator.channels c.next.new.self.channels c.in_default.is c.in-Some.ensures.steps.0,
  ),
)
