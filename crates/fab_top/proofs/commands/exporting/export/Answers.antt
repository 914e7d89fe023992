use Rattle.fab_top.specs.Answers.{IsExportAnswer}
use Rattle.fab_top.specs.Headline.{ExportsTruly}
use Rattle.fab_top.proofs.Steps.OnBoth.{fabric_stops, plan_stops, both_found}
use Rattle.fab_top.proofs.commands.exporting.export.Goals as goal

pub returns-in_err-fabric : goal.returns-in_err-fabric
returns-in_err-fabric g c =
    fabric_stops c.args.fabric c.args.plan (IsExportAnswer c.args.part) (ExportsTruly c.args.part) _ _ _ _ _ _ c.in_err-fabric.ensures.taken c.from_residual.ensures.1

pub returns-in_err-plan : goal.returns-in_err-plan
returns-in_err-plan g c =
    plan_stops c.args.fabric c.args.plan (IsExportAnswer c.args.part) (ExportsTruly c.args.part) _ _ _ _ _ _ _ _ _ c.in_ok-fabric.ensures.taken c.in_ok-fabric.ensures.told
    c.in_err-plan.ensures.taken c.from_residual-in_err-plan.ensures.1

pub returns : goal.returns
returns g c =
    both_found c.args.fabric c.args.plan (IsExportAnswer c.args.part) (ExportsTruly c.args.part) _ _ _ _ _ _ _ _ _ _ c.in_ok-fabric.ensures.taken c.in_ok-fabric.ensures.told
    c.in_ok-plan.ensures.taken c.in_ok-plan.ensures.told c.exported.ensures
