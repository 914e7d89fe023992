use Rattle.std.proofs.Common.{ℕ, List}
use Rattle.fab_model.specs.Topology.{Topology}
use Rattle.fab_mcast.specs.GroupList.{Group}
use Rattle.fab_top.specs.Answer.{Answer}
use Rattle.fab_top.specs.Answers.{IsSpreadAnswer, AfterMember}
use Rattle.fab_top.specs.Headline.{SpreadsTruly}
use Rattle.fab_top.proofs.Steps.OnGroups.{no_fabric, no_groups, groups_found}
use Rattle.fab_top.proofs.commands.groups.spread.Goals as goal

abbrev A : ℕ → ℕ → Topology → List Group → Answer → Type 0
A group lid t list answer = IsSpreadAnswer group lid t list answer

abbrev H : ℕ → ℕ → Topology → List Group → Answer → Type 0
H group lid t list answer = AfterMember group lid t list (SpreadsTruly t list) answer

pub returns-in_err-fabric : goal.returns-in_err-fabric
returns-in_err-fabric g c =
    no_fabric c.args.fabric c.args.groups (A c.args.group c.args.from.0) (H c.args.group c.args.from.0) _ _ _ _ _ _ c.in_err-fabric.ensures.taken c.from_residual.ensures.1

pub returns-in_err-groups : goal.returns-in_err-groups
returns-in_err-groups g c =
    no_groups c.args.fabric c.args.groups (A c.args.group c.args.from.0) (H c.args.group c.args.from.0) _ _ _ _ _ _ _ _ _ c.in_ok-fabric.ensures.taken c.in_ok-fabric.ensures.told
    c.in_err-groups.ensures.taken c.from_residual-in_err-groups.ensures.1

pub returns : goal.returns
returns g c =
    groups_found c.args.fabric c.args.groups (A c.args.group c.args.from.0) (H c.args.group c.args.from.0) _ _ _ _ _ _ _ _ _ _ c.in_ok-fabric.ensures.taken c.in_ok-fabric.ensures.told
    c.in_ok-groups.ensures.taken c.in_ok-groups.ensures.told c.reached.ensures
