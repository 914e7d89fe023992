use Rattle.std.proofs.Common.{◌≡◌, sym, ◌∙◌, ap, subst}
use Rattle.std.proofs.lemmas.Option.{same_Some}
use Rattle.fab_model.specs.Topology.{Topology}
use Rattle.fab_tables.specs.declared.plan.Plan.{Plan}
use Rattle.fab_tables.specs.Entries.{entry}
use Rattle.fab_tables.specs.Route.{hop_by}
use Rattle.fab_tables.specs.Route.Hop.{Along, Stop}
use Rattle.fab_transit.specs.MixedWalks.{plan_of}
use Rattle.fab_transit.specs.Changing.{Changing}
use Rattle.fab_transit.proofs.Hopping.{first_along, first_stop, told}
use Rattle.fab_transit.proofs.plans.Plans.hop.Goals as goal

pub returns-in-Some : goal.returns-in-Some
returns-in-Some c =
    let t = c.self.inside.fabric.now in
    let g = c.args.self.now in
    let lid = c.args.lid.0 in
    let s = c.args.at.0 in
    let ch = c.in-Some.channel in
    let fabric : t ≡ g.fabric = ap (λ (x : Changing). x.fabric) c.self.view_is in
    subst (λ (f : Topology). hop_by f lid s (entry (plan_of g.change c.args.side).tables s lid) ≡ Along ch.0) fabric
    (subst (λ (p : Plan). hop_by t lid s (entry p.tables s lid) ≡ Along ch.0) c.plan.ensures.plan
    (first_along t c.plan.result.now.tables lid s c.follow-route.ensures.kept.rows.some_switch ch c.follow-route.result c.next.new.self c.follow-route.ensures.channels c.in-Some.ensures.steps))

pub returns-in-None : goal.returns-in-None
returns-in-None c =
    let t = c.self.inside.fabric.now in
    let g = c.args.self.now in
    let e = c.plan.result.now.tables in
    let lid = c.args.lid.0 in
    let s = c.args.at.0 in
    let a = c.follow-route.result in
    let some = c.follow-route.ensures.kept.rows.some_switch in
    let end : c.unwrap.result ≡ a.end = same_Some c.unwrap.result a.end (sym c.unwrap.ensures ∙ c.end.ensures ∙ told t e lid s some a c.next.new.self c.in-None.ensures.steps) in
    let fabric : t ≡ g.fabric = ap (λ (x : Changing). x.fabric) c.self.view_is in
    subst (λ (f : Topology). hop_by f lid s (entry (plan_of g.change c.args.side).tables s lid) ≡ Stop c.unwrap.result) fabric
    (subst (λ (p : Plan). hop_by t lid s (entry p.tables s lid) ≡ Stop c.unwrap.result) c.plan.ensures.plan
    (first_stop t e lid s some a c.next.new.self c.follow-route.ensures.channels c.follow-route.ensures.end c.in-None.ensures.steps ∙ ap Stop (sym end)))
