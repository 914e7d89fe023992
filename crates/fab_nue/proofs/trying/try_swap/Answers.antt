use Rattle.std.proofs.Common.{◌∙◌, ℕ, List, Option, Some, option_map, sym, subst, ap, arith}
use Rattle.fab_model.specs.declared.rows.ChannelId.{ChannelId}
use Rattle.fab_model.specs.declared.rows.ChannelRow.{ChannelRow}
use Rattle.fab_tables.specs.Route.{tip_of_row}
use Rattle.fab_tables.specs.Trees.{next, LeavesSwitch}
use Rattle.fab_tables.specs.TreeWalks.{IsTree}
use Rattle.fab_depgraph.specs.Listed.{IsListed}
use Rattle.fab_sssp.proofs.Walks.LeastChannels.{tip_within}
use Rattle.fab_nue.specs.Search.{ClosesNone}
use Rattle.fab_nue.proofs.Searching.Adding.{tail_read}
use Rattle.fab_nue.proofs.Searching.SearchTrees.{channel_leaves}
use Rattle.fab_nue.proofs.Searching.Trying.{swap_read, back_read}
use Rattle.fab_nue.proofs.trying.try_swap.Goals as goal

pub next-before-requires : goal.next-before-requires
next-before-requires g c =
    let t = c.args.fabric.now in
    omega (arith, c.requires.tree.each_switch, tip_within t c.requires.fabric.rows c.args.added.0 c.channel-row.result.tip (ap (option_map (λ (r : ChannelRow). r.tip)) c.channel-row.ensures))

pub set-requires-clause-switch : goal.set-requires-clause-switch
set-requires-clause-switch g c =
    let t = c.args.fabric.now in
    omega (arith, c.requires.tree.each_switch, tip_within t c.requires.fabric.rows c.args.added.0 c.channel-row.result.tip (ap (option_map (λ (r : ChannelRow). r.tip)) c.channel-row.ensures))

pub set-requires-clause-leaves : goal.set-requires-clause-leaves
set-requires-clause-leaves g c =
    let t = c.args.fabric.now in
    subst (LeavesSwitch t c.args.turned.0) (c.requires.there ∙ ap tip_of_row c.channel-row.ensures) (channel_leaves t c.args.turned.0 c.requires.turned)

pub add_tree-requires-clause-tree : goal.add_tree-requires-clause-tree
add_tree-requires-clause-tree g c =
    let t = c.args.fabric.now in
    let is = swap_read t c.args.tree.now c.set.new.self c.set-2.new.self c.args.added.0 c.args.turned.0 c.channel-row.result c.channel-row.ensures c.requires.there c.set.ensures c.set-2.ensures in
    subst (λ (y : List (Option ℕ)). IsTree t y) (sym is) c.requires.new_tree

pub returns-in-Yes-clause-changed : goal.returns-in-Yes-clause-changed
returns-in-Yes-clause-changed g c = λ e.
    swap_read c.args.fabric.now c.args.tree.now c.set.new.self c.set-2.new.self c.args.added.0 c.args.turned.0 c.channel-row.result c.channel-row.ensures c.requires.there c.set.ensures c.set-2.ensures

pub returns-in-Yes-clause-closes_none : goal.returns-in-Yes-clause-closes_none
returns-in-Yes-clause-closes_none g c = λ e.
    let t = c.args.fabric.now in
    let is = swap_read t c.args.tree.now c.set.new.self c.set-2.new.self c.args.added.0 c.args.turned.0 c.channel-row.result c.channel-row.ensures c.requires.there c.set.ensures c.set-2.ensures in
    subst (λ (y : List (Option ℕ)). ClosesNone t (IsListed c.args.used.now.listed) y) is (c.add_tree.ensures.closes_none c.in-Yes.is)

pub returns-in-WouldClose-clause-closes : goal.returns-in-WouldClose-clause-closes
returns-in-WouldClose-clause-closes g c = λ e closes.
    let t = c.args.fabric.now in
    let is = swap_read t c.args.tree.now c.set.new.self c.set-2.new.self c.args.added.0 c.args.turned.0 c.channel-row.result c.channel-row.ensures c.requires.there c.set.ensures c.set-2.ensures in
    c.add_tree.ensures.closes c.in-WouldClose.is (subst (λ (y : List (Option ℕ)). ClosesNone t (IsListed c.args.used.now.listed) y) (sym is) closes)

pub returns-in-WouldClose-clause-stays : goal.returns-in-WouldClose-clause-stays
returns-in-WouldClose-clause-stays g c = λ e.
    let row = c.channel-row.result in
    let tree = c.args.tree.now in
    back_read tree c.set.new.self c.set-2.new.self c.set-in-WouldClose.new.self c.set-in-WouldClose-2.new.self row.tip.0 row.tail.0 (Some c.args.turned.0) (Some c.args.added.0)
    (option_map (λ (d : ChannelId). d.0) c.next-before.result) (sym c.next-before.ensures)
    (ap (λ s. next tree s) (sym (tail_read c.args.fabric.now c.args.added.0 row c.channel-row.ensures)) ∙ c.requires.unsettled) c.set.ensures c.set-2.ensures c.set-in-WouldClose.ensures
    c.set-in-WouldClose-2.ensures
