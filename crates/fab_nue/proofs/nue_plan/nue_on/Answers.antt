use Rattle.std.proofs.Common.{◌≡◌, ◌∙◌, ℕ, length, List, sym, subst}
use Rattle.std.specs.Prelude.{option_copied}
use Rattle.fab_escape.specs.Forest.{Forest}
use Rattle.fab_nue.specs.Arenas.{AreListing}
use Rattle.fab_nue.specs.Forests.{AreForests, forest_in}
use Rattle.fab_nue.specs.NuePlan.{DependsToEscapeIn}
use Rattle.fab_nue.specs.Unleveled.{IsWithoutLevels}
use Rattle.fab_nue.proofs.nue_plan.nue_on.Goals as goal

pub lay_all-requires-clause-forests : goal.lay_all-requires-clause-forests
lay_all-requires-clause-forests g c =
    let P : List Forest → Type 0 = λ fs. AreForests c.args.fabric.now c.args.lanes fs in
    subst (λ k. AreForests c.args.fabric.now k c.deref-2.result.now) (sym c.in_ok-used.ensures.lanes) (subst P (sym c.deref-2.ensures.value) c.in_ok-forests.ensures)

pub lay_all-requires-clause-listed : goal.lay_all-requires-clause-listed
lay_all-requires-clause-listed g c =
    let t = c.args.fabric.now in
    let u = c.in_ok-used.used in
    let P : List Forest → Type 0 = λ fs. AreListing c.args.lanes (λ on_lane a b. DependsToEscapeIn t c.args.lanes (λ lane. forest_in fs lane) on_lane a b) u in
    subst (λ k. AreListing k (λ on_lane a b. DependsToEscapeIn t k (λ lane. forest_in c.deref-2.result.now lane) on_lane a b) u) (sym c.in_ok-used.ensures.lanes)
    (subst P (c.deref.ensures.value ∙ sym c.deref-2.ensures.value) c.in_ok-used.ensures.listed)

pub with_levels-requires-clause-laid : goal.with_levels-requires-clause-laid
with_levels-requires-clause-laid g c =
    subst (λ k. IsWithoutLevels c.args.fabric.now k (option_copied c.args.old) c.in_ok-kept.kept c.lay_all.new.tables c.lay_all.new.used) c.in_ok-used.ensures.lanes c.in_ok-kept.ensures

pub lay_all-requires-clause-fabric : goal.lay_all-requires-clause-fabric
lay_all-requires-clause-fabric g c = c.in_ok-used.ensures.fabric

pub with_levels-requires-clause-fabric : goal.with_levels-requires-clause-fabric
with_levels-requires-clause-fabric g c = c.in_ok-used.ensures.fabric
