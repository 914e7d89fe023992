use Rattle.std.proofs.Common.{◌≡◌, not, map, Ok, sym, ap, ◌∙◌, rules}
use Rattle.std.specs.Prelude.{filter}
use Rattle.fab_model.specs.declared.rows.ChannelRow.{ChannelRow}
use Rattle.fab_model.specs.Topology.{Topology}
use Rattle.fab_model.specs.Without.{is_listed, without_cables, taken_out, unless_unknown}
use Rattle.fab_model.proofs.Cables.{listing_tells, gives_made, itself_made}
use Rattle.fab_model.proofs.Without.{without_is_fabric}
use Rattle.fab_model.proofs.fabric.Fabric.without.Goals as goal
use Rattle.fab_model.proofs.fabric.Fabric.without.Goals.{In_ok-kept}

kept_is : (c : In_ok-kept) → c.in_ok-kept.kept.items ≡ filter (λ (row : ChannelRow). not (is_listed c.args.self.now c.args.failed.now row)) c.args.self.now.channels
kept_is c =
    let test = is_listed c.args.self.now c.args.failed.now in
    let listed = listing_tells c.args.self.now c.args.failed.now c.in_ok-listed.listed.items c.in_ok-listed.ensures in
    let rows : c.deref.result.now ≡ c.args.self.now.channels = c.deref.ensures.value ∙ ap (λ (fabric : Topology). fabric.channels) c.self.view_is in
    let told = c.unlisted.ensures test (c.deref-2.ensures.value ∙ listed.1 ∙ ap (map test) (sym rows)) in
    let kept : c.in_ok-kept.kept.items ≡ filter (λ (row : ChannelRow). not (test row)) c.deref.result.now = search (rules, told) in
    kept ∙ ap (filter (λ (row : ChannelRow). not (test row))) rows

pub with_channels-requires : goal.with_channels-requires
with_channels-requires c =
    let are = rw c.self.view_is at c.self.invariant.0 in
    rw (kept_is (goal.at.with_channels-requires c).In_ok-kept) (without_is_fabric c.args.self.now c.args.failed.now are)

pub returns-clause-rows : goal.returns-clause-rows
returns-clause-rows c =
    let fabric = c.args.self.now in
    let failed = c.args.failed.now in
    let wanted = without_cables fabric failed in
    let listed = listing_tells fabric failed c.in_ok-listed.listed.items c.in_ok-listed.ensures in
    let taken : taken_out fabric failed ≡ Ok wanted = ap (λ o. unless_unknown o wanted) listed.0 in
    let made = rw (kept_is (goal.at.returns-clause-rows c).In_ok-kept) at c.with_channels.ensures.rows in
    gives_made c.with_channels.result c.map_err-2.result wanted (taken_out fabric failed) made taken c.map_err-2.ensures.cases (λ e f h. search rules)

pub returns-clause-itself : goal.returns-clause-itself
returns-clause-itself c = itself_made _ c.with_channels.result c.map_err-2.result c.with_channels.ensures.itself c.map_err-2.ensures.cases
