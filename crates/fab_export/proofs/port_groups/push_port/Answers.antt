use Rattle.std.proofs.Common.{[], ◌∷◌, ◌++◌, refl}
use Rattle.std.specs.Prelude.{codes}
use Rattle.std.proofs.lemmas.Result.{IfOk-equal}
use Rattle.fab_dump.specs.Writing.{hex16}
use Rattle.fab_dump.proofs.Writing.Rows.{added, one_line}
use Rattle.fab_export.specs.LevelsText.{port_guid_line}
use Rattle.fab_export.proofs.port_groups.push_port.Goals as goal

pub returns : goal.returns
unfolding port_guid_line
returns c =
    IfOk-equal c.push-2.result _ _ _ c.push-2.ensures
    (one_line (codes "port-guid: " ++ hex16 c.args.guid) c.args.text.now.items c.push_guid.new.text.items (c.push_guid.new.text.items ++ 10 ∷ [])
    (added c.args.text.now.items (codes "port-guid: ") (hex16 c.args.guid) c.push.new.to.items c.push_guid.new.text.items c.in_ok-push.ensures c.in_ok-push_guid.ensures) refl)
