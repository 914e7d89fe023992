use Rattle.std.proofs.Common.{◌≡◌, ◌∙◌, ℕ, false, Some, sym, ap}
use Rattle.std.specs.Prelude.{◌||◌, slice_get}
use Rattle.fab_model.specs.Topology.{channel_at}
use Rattle.fab_tables.specs.Route.{tip}
use Rattle.fab_mcast.specs.Ways.{leads_by}
use Rattle.fab_mcast.proofs.TreePorts.{channel_told, no_channel_told, tip_told, tree_port_own, tree_port_told, tree_port_missing}
use Rattle.fab_mcast.proofs.ways.MarkedTree.is_tree_port.Goals as goal

pub returns-then-leads_by : goal.returns-then-leads_by
returns-then-leads_by c = λ members is.
    let t = c.args.fabric.now in
    let found : channel_at t c.args.s.0 c.args.port ≡ Some c.in-Some.channel.0 = channel_told (channel_at t c.args.s.0 c.args.port) c.channel_at.result c.in-Some.channel c.channel_at.ensures c.in-Some.is in
    c.if-leads_by.true
    ∙ sym (tree_port_own t c.requires.fabric.rows c.args.escape.now c.requires.forest members c.args.self.now.homes.items c.args.self.now.passed.items is c.args.s.0 c.args.port c.in-Some.channel.0 found
    (sym c.leads_by.ensures ∙ c.if-leads_by.true))

pub returns-else-leads_by : goal.returns-else-leads_by
returns-else-leads_by c = λ members is.
    let t = c.args.fabric.now in
    let f = c.args.escape.now in
    let homes = c.args.self.now.homes.items in
    let passed = c.args.self.now.passed.items in
    let channel : ℕ = c.in-Some.channel.0 in
    let back : ℕ = c.reverse.result.0 in
    let found : channel_at t c.args.s.0 c.args.port ≡ Some channel = channel_told (channel_at t c.args.s.0 c.args.port) c.channel_at.result c.in-Some.channel c.channel_at.ensures c.in-Some.is in
    let tip_is : tip t channel ≡ c.tip.result.0 = tip_told (slice_get t.channels channel) c.tip.result c.tip.ensures in
    let own : leads_by f homes passed c.args.s.0 channel ≡ false = sym c.leads_by.ensures ∙ c.if-leads_by.false in
    c.leads_by-else-leads_by.ensures ∙ ap (λ x. leads_by f homes passed x back) (sym tip_is)
    ∙ sym (tree_port_told t c.requires.fabric.rows f c.requires.forest members homes passed is c.args.s.0 c.args.port channel back c.requires.switch found c.reverse.ensures.reverse
    ∙ ap (λ b. b || leads_by f homes passed (tip t channel) back) own)

pub returns-in-None : goal.returns-in-None
returns-in-None c = λ members is.
    let t = c.args.fabric.now in
    sym (tree_port_missing t c.requires.fabric.rows c.args.escape.now c.requires.forest members c.args.self.now.homes.items c.args.self.now.passed.items is c.args.s.0 c.args.port c.requires.switch
    (no_channel_told (channel_at t c.args.s.0 c.args.port) c.channel_at.result c.channel_at.ensures c.in-None.is))
