use Rattle.std.proofs.lemmas.Result.{IfOk-equal}
use Rattle.fab_export.proofs.ClassRows.{levels_pushed}
use Rattle.fab_export.proofs.levels.push_levels.Goals as goal

pub returns : goal.returns
returns c =
    IfOk-equal c.push-2.result _ _ _ c.push-2.ensures
    (levels_pushed c.args.reached.now.fabric c.args.reached.now.entries c.args.lanes.now c.used_levels-used.result c.spare_level_of.result c.used_levels-used.ensures
    (c.spare_level_of.ensures c.args.reached.now.fabric c.args.reached.now.entries c.args.lanes.now c.used_levels-used.ensures)
    c.args.text.now.items c.push.new.to.items c.push_default_level.new.text.items c.push_used_levels.new.text.items
    c.in_ok-push.ensures c.in_ok-push_default_level.ensures c.in_ok-push_used_levels.ensures)
