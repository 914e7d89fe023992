use Rattle.std.proofs.Common.{map}
use Rattle.std.specs.Prelude.{codes, decimal, filter, flat_map, length}
use Rattle.std.specs.List.{range_with_len}
use Rattle.std.proofs.lemmas.Result.{IfOk-equal}
use Rattle.fab_export.specs.ClassNumbers.{is_of_class}
use Rattle.fab_export.specs.LevelsText.{port_guid_line}
use Rattle.fab_export.specs.PortGuids.{source_guids}
use Rattle.fab_export.proofs.GroupLines.{group_pushed}
use Rattle.fab_export.proofs.port_groups.push_class_group.Goals as goal

pub returns : goal.returns
returns c =
    IfOk-equal c.push-3.result _ _ _ c.push-3.ensures
    (group_pushed c.args.text.now.items (codes "port-group\nname: class") (decimal c.args.class)
    (map port_guid_line (flat_map (source_guids c.args.fabric.now) (filter (is_of_class c.args.classes.now c.args.class) (range_with_len 0 (length c.args.fabric.now.switches)))))
    (codes "end-port-group") c.push.new.to.items c.push_dec.new.to.items c.push-2.new.to.items c.push_sources.new.text.items
    c.in_ok-push.ensures c.in_ok-push_dec.ensures.ok c.in_ok-push-2.ensures c.in_ok-push_sources.ensures)
