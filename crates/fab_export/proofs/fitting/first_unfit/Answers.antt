use Rattle.std.proofs.Common.{◌∙◌, sym, subst}
use Rattle.fab_model.specs.Topology.{Topology}
use Rattle.fab_tables.specs.Verdicts.{IsVerdict}
use Rattle.fab_export.proofs.UnfitRows.{unfit_of_refused, first_behind}
use Rattle.fab_export.proofs.fitting.first_unfit.Goals as goal

pub returns-in-Some : goal.returns-in-Some
returns-in-Some c = (
  c.check-verdict.result,
  subst (λ (t : Topology). IsVerdict t c.args.plan.now.tables c.args.plan.now.lanes c.check-verdict.result) c.in_ok-checker.ensures c.check-verdict.ensures.verdict,
  unfit_of_refused c.args.fabric.now c.args.plan.now c.args.part c.check-verdict.result c.in-Some.unfit (sym c.in-Some.is ∙ c.refused.ensures),
)

pub returns : goal.returns
returns c =
    first_behind c.args.fabric.now c.args.plan.now c.args.part c.check-verdict.result c.unfit_of_good.result
    (subst (λ (t : Topology). IsVerdict t c.args.plan.now.tables c.args.plan.now.lanes c.check-verdict.result) c.in_ok-checker.ensures c.check-verdict.ensures.verdict)
    (c.unfit_of_good.ensures c.check-verdict.result (sym c.refused.ensures ∙ c.in-None.is))
