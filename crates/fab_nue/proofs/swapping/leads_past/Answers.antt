use Rattle.std.proofs.Common.{arith}
use Rattle.fab_sssp.proofs.Walks.LeastChannels.{tip_within}
use Rattle.fab_nue.proofs.swapping.leads_past.Goals as goal

pub is_settled-requires : goal.is_settled-requires
is_settled-requires c =
    omega (arith, c.requires.tree.each_switch, tip_within c.args.fabric.now c.requires.fabric.rows c.args.channel.0 c.tip-next.result c.tip-next.ensures)

pub passes-requires-clause-from : goal.passes-requires-clause-from
passes-requires-clause-from c = tip_within c.args.fabric.now c.requires.fabric.rows c.args.channel.0 c.tip-next.result c.tip-next.ensures
