use Rattle.fab_top.specs.Answers.{IsTransitAnswer}
use Rattle.fab_top.specs.Headline.{TransitsTruly}
use Rattle.fab_top.proofs.Steps.OnTwoPlans.{first_stops, old_stops, new_stops, plans_found}
use Rattle.fab_top.proofs.commands.change.transit.Goals as goal

pub returns-in_err-fabric : goal.returns-in_err-fabric
returns-in_err-fabric g c =
    first_stops c.args.fabric c.args.old c.args.new IsTransitAnswer TransitsTruly _ _ _ _ _ _ c.in_err-fabric.ensures.taken c.from_residual.ensures.1

pub returns-in_err-old : goal.returns-in_err-old
returns-in_err-old g c =
    old_stops c.args.fabric c.args.old c.args.new IsTransitAnswer TransitsTruly _ _ _ _ _ _ _ _ _ c.in_ok-fabric.ensures.taken c.in_ok-fabric.ensures.told c.in_err-old.ensures.taken
    c.from_residual-in_err-old.ensures.1

pub returns-in_err-new : goal.returns-in_err-new
returns-in_err-new g c =
    new_stops c.args.fabric c.args.old c.args.new IsTransitAnswer TransitsTruly _ _ _ _ _ _ _ _ _ _ _ _ c.in_ok-fabric.ensures.taken c.in_ok-fabric.ensures.told
    c.in_ok-old.ensures.taken c.in_ok-old.ensures.told c.in_err-new.ensures.taken c.from_residual-in_err-new.ensures.1

pub returns : goal.returns
returns g c =
    plans_found c.args.fabric c.args.old c.args.new IsTransitAnswer TransitsTruly _ _ _ _ _ _ _ _ _ _ _ _ _ c.in_ok-fabric.ensures.taken c.in_ok-fabric.ensures.told
    c.in_ok-old.ensures.taken c.in_ok-old.ensures.told c.in_ok-new.ensures.taken c.in_ok-new.ensures.told c.looked_at.ensures
