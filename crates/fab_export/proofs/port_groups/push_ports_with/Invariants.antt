use Rattle.std.proofs.Common.{◌≡◌, ◌++◌, map, take}
use Rattle.fab_model.specs.Topology.{lids_of}
use Rattle.fab_dump.specs.Writing.{lines_text}
use Rattle.fab_export.specs.LevelsText.{port_guid_line}
use Rattle.fab_export.specs.PortGuids.{port_guid}
use Rattle.fab_export.specs.SourceLevels.{lids_with}
use Rattle.fab_export.proofs.port_groups.push_ports_with.Given as goal

abbrev pub invariant-loop-place : goal.invariant-loop-place
invariant-loop-place l =
    l.text.items ≡ l.initial.text.items ++ lines_text (map port_guid_line (map (port_guid l.fabric) (lids_with l.level (take l.place l.row) (take l.place (lids_of l.fabric)))))
