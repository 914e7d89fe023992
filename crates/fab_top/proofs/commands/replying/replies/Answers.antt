use Rattle.fab_top.specs.Answers.{IsRepliesAnswer}
use Rattle.fab_top.specs.Headline.{RepliesTruly}
use Rattle.fab_top.proofs.Steps.OnBoth.{fabric_stops, plan_stops, both_found}
use Rattle.fab_top.proofs.commands.replying.replies.Goals as goal

pub returns-in_err-fabric : goal.returns-in_err-fabric
returns-in_err-fabric g c =
    fabric_stops c.args.fabric c.args.plan IsRepliesAnswer RepliesTruly _ _ _ _ _ _ c.in_err-fabric.ensures.taken c.from_residual.ensures.1

pub returns-in_err-plan : goal.returns-in_err-plan
returns-in_err-plan g c =
    plan_stops c.args.fabric c.args.plan IsRepliesAnswer RepliesTruly _ _ _ _ _ _ _ _ _ c.in_ok-fabric.ensures.taken c.in_ok-fabric.ensures.told c.in_err-plan.ensures.taken
    c.from_residual-in_err-plan.ensures.1

pub returns : goal.returns
returns g c =
    both_found c.args.fabric c.args.plan IsRepliesAnswer RepliesTruly _ _ _ _ _ _ _ _ _ _ c.in_ok-fabric.ensures.taken c.in_ok-fabric.ensures.told
    c.in_ok-plan.ensures.taken c.in_ok-plan.ensures.told c.answered.ensures
