use Rattle.fab_export.specs.ClassNumbers.{is_of_class}
use Rattle.fab_export.specs.LevelsText.{port_guid_line}
use Rattle.fab_export.specs.PortGuids.{source_guids}
use Rattle.fab_export.proofs.GroupLines.{passing_more}
use Rattle.fab_export.proofs.port_groups.push_sources.Goals as goal

pub loop-switch-preserved : goal.loop-switch-preserved
loop-switch-preserved c =
    passing_more port_guid_line (source_guids c.args.fabric.now) (is_of_class c.args.classes.now c.args.class) c.loop-switch.switch c.args.text.now.items c.loop-switch.text.items c.push_source_of.new.text.items
    c.loop-switch.invariant c.in_ok-push_source_of.ensures
