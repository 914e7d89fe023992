use Rattle.std.proofs.Common.{◌++◌, ℕ, ap, ◌∙◌, map}
use Rattle.std.specs.Prelude.{codes, decimal}
use Rattle.std.proofs.lemmas.Result.{IfOk-equal}
use Rattle.fab_export.specs.LevelsText.{port_guid_line}
use Rattle.fab_export.specs.SourceLevels.{row_group}
use Rattle.fab_export.proofs.GroupLines.{group_pushed, three_pieces}
use Rattle.fab_export.proofs.port_groups.push_level_group.Goals as goal

pub returns : goal.returns
returns c =
    IfOk-equal c.push-4.result _ _ _ c.push-4.ensures
    (group_pushed c.args.text.now.items (codes "port-group\nname: class") (decimal c.args.class ++ (codes "level" ++ decimal c.args.level))
    (map port_guid_line (row_group c.args.fabric.now 0 c.args.row.now c.args.level).guids)
    (codes "end-port-group") c.push.new.to.items c.push_dec-2.new.to.items c.push-3.new.to.items c.push_ports_with.new.text.items
    c.in_ok-push.ensures
    (three_pieces c.push.new.to.items (decimal c.args.class) (codes "level") (decimal c.args.level) c.push_dec.new.to.items c.push-2.new.to.items c.push_dec-2.new.to.items c.in_ok-push_dec.ensures.ok c.in_ok-push-2.ensures (c.in_ok-push_dec-2.ensures.ok ∙ ap (λ (n : ℕ). c.push-2.new.to.items ++ decimal n) c.from.ensures))
    c.in_ok-push-3.ensures c.in_ok-push_ports_with.ensures)
