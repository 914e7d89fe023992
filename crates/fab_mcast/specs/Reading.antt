-- What the reader of the list of groups has in hand.
use Rattle.std.specs.Prelude.{ℕ, List, map, Option, position, ◌==◌}
use Rattle.fab_model.specs.declared.rows.TerminalRow.{TerminalRow}
use Rattle.fab_model.specs.declared.rows.TerminalId.{TerminalId}
use Rattle.fab_model.specs.Topology.{Topology}
use Rattle.fab_mcast.specs.declared.group_list.Named.{Named as Read}
use Rattle.fab_mcast.specs.declared.groups.Group.{Group as Kept}
use Rattle.fab_mcast.specs.GroupList.{Group, Named}

-- what a line names, and a group, by their numbers alone
abbrev pub seen_named : Read → Named
seen_named named = record { number = named.number; lids = named.lids.items }

abbrev pub seen_group : Kept → Group
seen_group group = record { number = group.number; members = map (λ (id : TerminalId). id.0) group.members.items }

-- the number of the terminal that has a LID
abbrev pub number_of_lid : Topology → ℕ → Option ℕ
number_of_lid t lid = position (λ (row : TerminalRow). row.lid.0 == lid) t.terminals
