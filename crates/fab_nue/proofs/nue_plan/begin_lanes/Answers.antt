use Rattle.std.proofs.Common.{◌≡◌, ◌∙◌, ℕ, List, length, All, sym, subst}
use Rattle.fab_depgraph.specs.Listed.{Dependencies}
use Rattle.fab_nue.specs.Arenas.{AreListing}
use Rattle.fab_nue.specs.NuePlan.{DependsToEscapeIn}
use Rattle.fab_nue.specs.Forests.{AreForests, forest_in}
use Rattle.fab_nue.proofs.Lanes.LaneLists.{still_have}
use Rattle.fab_nue.proofs.Plans.WholePlan.{short_at_first, channels_at_first}
use Rattle.fab_nue.proofs.nue_plan.begin_lanes.Goals as goal

pub add_escapes-requires-clause-forests : goal.add_escapes-requires-clause-forests
add_escapes-requires-clause-forests g c = subst (λ k. AreForests c.args.fabric.now k c.args.forests.now) (sym c.in_ok-used.ensures.lanes) c.requires.forests

pub add_escapes-requires-clause-channels : goal.add_escapes-requires-clause-channels
add_escapes-requires-clause-channels g c =
    let u = c.in_ok-used.used in
    channels_at_first c.args.fabric.now u (subst (λ n. All (λ (x : Dependencies). x.channels ≡ n) u) c.channels.ensures.count c.in_ok-used.ensures.channels)

pub add_escapes-requires-clause-empty : goal.add_escapes-requires-clause-empty
add_escapes-requires-clause-empty g c = short_at_first c.in_ok-used.used c.in_ok-used.ensures.empty

pub returns-clause-channels : goal.returns-clause-channels
returns-clause-channels g c =
    let u = c.in_ok-used.used in
    still_have c.args.fabric.now u c.add_escapes.new.used c.in_ok-add_escapes.ensures.channels
    (channels_at_first c.args.fabric.now u (subst (λ n. All (λ (x : Dependencies). x.channels ≡ n) u) c.channels.ensures.count c.in_ok-used.ensures.channels))

pub returns-clause-listed : goal.returns-clause-listed
returns-clause-listed g c =
    subst (λ k. AreListing k (λ on_lane a b. DependsToEscapeIn c.args.fabric.now k (λ lane. forest_in c.args.forests.now lane) on_lane a b) c.add_escapes.new.used) c.in_ok-used.ensures.lanes c.in_ok-add_escapes.ensures.listed
