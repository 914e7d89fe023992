use Rattle.fab_top.specs.Answers.{IsMcastAnswer}
use Rattle.fab_top.specs.Headline.{PlantsTruly}
use Rattle.fab_top.proofs.Steps.OnGroups.{no_fabric, no_groups, groups_found}
use Rattle.fab_top.proofs.commands.groups.mcast.Goals as goal

pub returns-in_err-fabric : goal.returns-in_err-fabric
returns-in_err-fabric g c = no_fabric c.args.fabric c.args.groups IsMcastAnswer PlantsTruly _ _ _ _ _ _ c.in_err-fabric.ensures.taken c.from_residual.ensures.1

pub returns-in_err-groups : goal.returns-in_err-groups
returns-in_err-groups g c =
    no_groups c.args.fabric c.args.groups IsMcastAnswer PlantsTruly _ _ _ _ _ _ _ _ _ c.in_ok-fabric.ensures.taken c.in_ok-fabric.ensures.told c.in_err-groups.ensures.taken
    c.from_residual-in_err-groups.ensures.1

pub returns : goal.returns
returns g c =
    groups_found c.args.fabric c.args.groups IsMcastAnswer PlantsTruly _ _ _ _ _ _ _ _ _ _ c.in_ok-fabric.ensures.taken c.in_ok-fabric.ensures.told
    c.in_ok-groups.ensures.taken c.in_ok-groups.ensures.told c.tables_told.ensures
