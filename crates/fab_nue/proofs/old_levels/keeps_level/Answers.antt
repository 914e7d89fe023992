use Rattle.std.proofs.Common.{◌≡◌, ◌∙◌, ◌<◌, Some, sym, subst}
use Rattle.std.proofs.lemmas.Option.{same_Some}
use Rattle.fab_nue.specs.Kept.{old_level}
use Rattle.fab_nue.specs.OldRoutes.{KeepsLaneFrom, KeepsLevelAlong}
use Rattle.fab_nue.proofs.Keeping.OldLevels.{answers_also}
use Rattle.fab_nue.proofs.old_levels.keeps_level.Goals as goal

pub returns-then-level-lanes : goal.returns-then-level-lanes
returns-then-level-lanes c =
    let t = c.args.fabric.now in
    let old = c.args.old.now in
    let tree = c.args.tree.now in
    let s = c.args.from.0 in
    let lid = c.args.lid.0 in
    let level = c.in-Some.level in
    let at : old_level old.lanes s lid ≡ Some level = sym c.old_level.ensures ∙ c.in-Some.is in
    answers_also c.keeps_lane.result (KeepsLaneFrom t old tree level s) (KeepsLevelAlong t c.args.lanes old tree s lid)
    (λ keeps. record { level = level; is = at; below = c.if-level-lanes.true; same_lane = keeps })
    (λ none x. none (subst (λ l. KeepsLaneFrom t old tree l s) (same_Some x.level level (sym x.is ∙ at)) x.same_lane))
    c.keeps_lane.ensures
