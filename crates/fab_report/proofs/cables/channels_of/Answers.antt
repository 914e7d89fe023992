use Rattle.std.proofs.Common.{ℕ, List, [], ◌∷◌, ◌++◌, ap, ◌∙◌, rules}
use Rattle.std.proofs.lemmas.Cmp.{then_total, on_total, nat_cmp_total}
use Rattle.std.proofs.lemmas.List.{take_all}
use Rattle.std.proofs.lemmas.List.Sorted.{answers_always}
use Rattle.fab_model.specs.declared.rows.ChannelRow.{ChannelRow}
use Rattle.fab_model.specs.declared.rows.SwitchId.{SwitchId}
use Rattle.fab_model.specs.InOrder.{in_order}
use Rattle.fab_model.specs.Built.{by_tail}
use Rattle.fab_model.specs.Topology.{reversed}
use Rattle.fab_model.proofs.Lists.Sorted.{in_order-by_key}
use Rattle.fab_model.proofs.Made.Links.{by_tail-compared}
use Rattle.fab_report.proofs.Cabling.CableLists.{both_ways}
use Rattle.fab_report.proofs.Cabling.Growing.{two_more, grows_along}
use Rattle.fab_report.proofs.cables.channels_of.Goals as goal

pub loop-row-preserved : goal.loop-row-preserved
loop-row-preserved c =
    grows_along (λ (r : ChannelRow). r ∷ reversed r ∷ []) c.args.cables.now c.loop-row.row-index _ c.loop-row.rows.items c.push-in-loop-row.new.self.items c.loop-row-test.true c.loop-row.invariant
    (two_more c.loop-row.rows.items c.push.new.self.items c.push-in-loop-row.new.self.items _ _ c.in_ok-push.ensures.items
    (c.in_ok-push-2.ensures.items ∙ ap (λ (r : ChannelRow). c.push.new.self.items ++ r ∷ []) c.cable.ensures))

pub returns : goal.returns
returns c =
    let key : ChannelRow → SwitchId × ℕ = λ (row : ChannelRow). (row.tail, row.port) in
    let by_key = answers_always _ _ _ (λ f a r g h. search rules) in
    let sorted = in_order-by_key (then_total (on_total (λ (k : SwitchId × ℕ). k.0) (on_total (λ (s : SwitchId). s.0) nat_cmp_total)) (on_total (λ (k : SwitchId × ℕ). k.1) nat_cmp_total)) key by_tail by_tail-compared _ _
    (c.in_ok-sort_by_key.ensures.sorted key by_key) (c.in_ok-sort_by_key.ensures.stable key by_key) in
    sorted ∙ ap (λ (rows : List ChannelRow). in_order by_tail rows) (c.loop-row.invariant ∙ ap (λ (rows : List ChannelRow). both_ways rows) (take_all c.loop-row.row-index c.args.cables.now c.loop-row-test.false))
