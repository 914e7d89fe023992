use Rattle.std.proofs.Common.{ap, arith, option_map}
use Rattle.fab_model.specs.declared.rows.ChannelRow.{ChannelRow}
use Rattle.fab_sssp.proofs.Walks.LeastChannels.{tip_within}
use Rattle.fab_nue.proofs.Searching.Adding.{tail_read}
use Rattle.fab_nue.proofs.Searching.SearchTrees.{tail_below}
use Rattle.fab_nue.proofs.crossing.crosses.Goals as goal

pub is_settled-requires : goal.is_settled-requires
is_settled-requires c =
    let t = c.args.fabric.now in
    omega (arith, c.requires.tree, tail_below t c.args.channel.0 c.requires.fabric.rows c.requires.channel, tail_read t c.args.channel.0 c.channel-row.result c.channel-row.ensures)

pub is_settled-requires-then-not-is_settled : goal.is_settled-requires-then-not-is_settled
is_settled-requires-then-not-is_settled c =
    omega (
      arith,
      c.requires.tree,
      tip_within c.args.fabric.now c.requires.fabric.rows c.args.channel.0 c.channel-row.result.tip (ap (option_map (λ (r : ChannelRow). r.tip)) c.channel-row.ensures),
    )
