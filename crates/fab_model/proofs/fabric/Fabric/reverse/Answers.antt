use Rattle.std.proofs.Common.{◌≡◌, Some, ap, sym, ◌∙◌}
use Rattle.std.specs.Prelude.{option_map}
use Rattle.std.proofs.lemmas.Option.{none-some, same_Some, slice_get-get_or}
use Rattle.fab_model.specs.declared.rows.ChannelId.{ChannelId}
use Rattle.fab_model.specs.Topology.{channel_id, channel_at}
use Rattle.fab_model.proofs.Finds.{has_reverse}
use Rattle.fab_model.proofs.fabric.Fabric.reverse.Goals as goal

pub channel_at-requires : goal.channel_at-requires
channel_at-requires c =
    let within = rw (← c.self.view_is) at c.requires in
    rw (← c.self.view_is) (has_reverse _ c.args.c.0 c.index-row.result.now c.self.invariant.0.rows within c.index-row.ensures).tip

pub unreachable-requires : goal.unreachable-requires
unreachable-requires c =
    let within = rw (← c.self.view_is) at c.requires in
    let row = c.index-row.result.now in
    let r = has_reverse _ c.args.c.0 row c.self.invariant.0.rows within c.index-row.ensures in
    let at : channel_at c.args.self.now row.tip.0 row.tip_port ≡ Some r.other = rw (← c.self.view_is) r.at in
    none-some _ (c.in-None.ensures ∙ ap (option_map channel_id) at)

pub returns-clause-reverse : goal.returns-clause-reverse
returns-clause-reverse c =
    let within = rw (← c.self.view_is) at c.requires in
    let row = c.index-row.result.now in
    let r = has_reverse _ c.args.c.0 row c.self.invariant.0.rows within c.index-row.ensures in
    let at : channel_at c.args.self.now row.tip.0 row.tip_port ≡ Some r.other = rw (← c.self.view_is) r.at in
    let same : c.in-Some.other.0 ≡ r.other = ap (λ (id : ChannelId). id.0) (same_Some c.in-Some.other (channel_id r.other) (c.in-Some.ensures ∙ ap (option_map channel_id) at)) in
    let here = slice_get-get_or c.self.inside.channels.items c.args.c.0 row within ∙ ap Some (sym c.index-row.ensures) in
    rw (← c.self.view_is) (rw (here, same) r.is)
