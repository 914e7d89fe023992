use Rattle.std.proofs.Common.{arith}
use Rattle.fab_certify.proofs.Numbered.NumbersSet.{all_numbered}
use Rattle.fab_certify.proofs.numbers.set_numbers.Goals as goal

pub returns : goal.returns
returns c = all_numbered c.args.dependencies.now c.args.levels.now c.args.lanes.now c.loop-channel.lanes c.loop-channel.channel c.loop-channel.invariant (omega (arith, c.requires.channels, c.loop-channel-test.false))
