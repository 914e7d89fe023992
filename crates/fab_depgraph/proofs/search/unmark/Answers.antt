use Rattle.std.proofs.Common.{length, arith}
use Rattle.fab_model.specs.Topology.{channel_id}
use Rattle.fab_depgraph.proofs.Searching.Found.{forget_none, forget_more, forget_all}
use Rattle.fab_depgraph.proofs.search.unmark.Goals as goal

pub loop-channel-init : goal.loop-channel-init
loop-channel-init c = forget_none c.args.marks.now c.args.channels.now c.requires.marked

pub loop-channel-preserved : goal.loop-channel-preserved
loop-channel-preserved c = forget_more (length c.args.marks.now) c.loop-channel.marks c.args.channels.now c.loop-channel.channel-index (channel_id 0) c.loop-channel-test.true c.loop-channel.invariant

pub returns : goal.returns
returns c = forget_all (length c.args.marks.now) c.loop-channel.marks c.args.channels.now c.loop-channel.channel-index (omega arith) c.loop-channel.invariant
