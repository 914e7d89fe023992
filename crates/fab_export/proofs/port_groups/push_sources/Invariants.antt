use Rattle.std.proofs.Common.{◌≡◌, ◌++◌, map}
use Rattle.std.specs.Prelude.{filter, flat_map}
use Rattle.std.specs.List.{range_with_len}
use Rattle.fab_dump.specs.Writing.{lines_text}
use Rattle.fab_export.specs.ClassNumbers.{is_of_class}
use Rattle.fab_export.specs.LevelsText.{port_guid_line}
use Rattle.fab_export.specs.PortGuids.{source_guids}
use Rattle.fab_export.proofs.port_groups.push_sources.Given as goal

abbrev pub invariant-loop-switch : goal.invariant-loop-switch
invariant-loop-switch l =
    l.text.items ≡ l.initial.text.items ++ lines_text (map port_guid_line (flat_map (source_guids l.fabric) (filter (is_of_class l.classes l.class) (range_with_len 0 l.switch))))
