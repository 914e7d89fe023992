use Rattle.std.proofs.Common.{◌≡◌, ℕ, length, Option, sym, subst}
use Rattle.std.specs.Prelude.{IfOk, option_copied}
use Rattle.std.proofs.lemmas.Result.{IfOk-weaker}
use Rattle.fab_tables.specs.declared.plan.Plan.{Plan}
use Rattle.fab_nue.specs.NuePlan.{IsNueLayout}
use Rattle.fab_nue.specs.Laws.{KeepsItself}
use Rattle.fab_nue.specs.Laying.{IsUnnumbered}
use Rattle.fab_nue.proofs.Plans.OverEscape.{nue_keeps_itself}
use Rattle.fab_nue.proofs.Plans.WholePlan.{low, unnumbered}
use Rattle.fab_nue.proofs.nue_plan.with_levels.Goals as goal

pub nue_lanes-requires-clause-low : goal.nue_lanes-requires-clause-low
nue_lanes-requires-clause-low c =
    low c.args.fabric.now c.args.lanes (option_copied c.args.old) c.args.kept c.args.tables c.args.used c.requires.laid c.requires.lanes.0

pub numbered_plan-requires-clause-laid : goal.numbered_plan-requires-clause-laid
numbered_plan-requires-clause-laid c =
    let l = c.in_ok-levels.levels in (
      option_copied c.args.old,
      unnumbered c.args.fabric.now c.args.lanes (option_copied c.args.old) c.args.kept c.args.tables c.args.used c.requires.laid l
          c.in_ok-levels.ensures.count c.in_ok-levels.ensures.fits c.in_ok-levels.ensures.maps c.in_ok-levels.ensures.levels,
    )

pub returns-clause-plan : goal.returns-clause-plan
returns-clause-plan c =
    let t = c.args.fabric.now in
    let o = option_copied c.args.old in
    let l = c.in_ok-levels.levels in
    let is = unnumbered t c.args.lanes o c.args.kept c.args.tables c.args.used c.requires.laid l
    c.in_ok-levels.ensures.count c.in_ok-levels.ensures.fits c.in_ok-levels.ensures.maps c.in_ok-levels.ensures.levels in
    IfOk-weaker c.numbered_plan.result (λ x. (old : Option Plan) → IsUnnumbered t old c.args.kept c.args.tables l c.args.used → IsNueLayout t l.count old x.kept x.plan x.used) (λ x. IsNueLayout t c.args.lanes o x.kept x.plan x.used)
    (λ x has. subst (λ k. IsNueLayout t k o x.kept x.plan x.used) c.in_ok-levels.ensures.count (has o is)) c.numbered_plan.ensures.plan

pub returns-clause-itself : goal.returns-clause-itself
returns-clause-itself c =
    let t = c.args.fabric.now in
    let o = option_copied c.args.old in
    let l = c.in_ok-levels.levels in
    let is = unnumbered t c.args.lanes o c.args.kept c.args.tables c.args.used c.requires.laid l
    c.in_ok-levels.ensures.count c.in_ok-levels.ensures.fits c.in_ok-levels.ensures.maps c.in_ok-levels.ensures.levels in
    IfOk-weaker c.numbered_plan.result (λ x. (old : Option Plan) → IsUnnumbered t old c.args.kept c.args.tables l c.args.used → IsNueLayout t l.count old x.kept x.plan x.used) (λ x. KeepsItself t c.args.lanes o x.kept x.plan)
    (λ x has.
    let lays : IsNueLayout t c.args.lanes o x.kept x.plan x.used = subst (λ k. IsNueLayout t k o x.kept x.plan x.used) c.in_ok-levels.ensures.count (has o is) in
    nue_keeps_itself t c.args.lanes o x.kept x.plan c.requires.fabric.rows c.requires.lanes.0 c.requires.lanes.1 (lays.0, lays.1, lays.2)) c.numbered_plan.ensures.plan
