use Rattle.std.proofs.Common.{◌≡◌, map, take}
use Rattle.fab_mcast.specs.GroupList.{Group}
use Rattle.fab_mcast.specs.GroupTrees.{planted}
use Rattle.fab_mcast.specs.Tables.{seen_planted}
use Rattle.fab_mcast.proofs.group_tables.plant.Given as goal

abbrev pub invariant-loop-index : goal.invariant-loop-index
invariant-loop-index l =
    map seen_planted l.list.items ≡ map (λ (g : Group). planted l.fabric (record { roots = l.escape-inside.roots.items; links = l.escape-inside.links.items }) g.members) (take l.index l.groups)
