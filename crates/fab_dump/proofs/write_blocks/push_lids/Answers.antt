use Rattle.std.proofs.lemmas.Result.{IfOk-equal}
use Rattle.fab_dump.proofs.Writing.Rows.{lids_done}
use Rattle.fab_dump.proofs.write_blocks.push_lids.Goals as goal

pub returns : goal.returns
returns c =
    IfOk-equal c.push-3.result _ _ _ c.push-3.ensures
    (lids_done c.args.lids.now _ _ c.args.text.now.items c.push.new.to.items c.push_lid.new.text.items c.push-2.new.to.items c.push_lid-2.new.text.items c.requires
    c.in_ok-push.ensures c.in_ok-push_lid.ensures c.in_ok-push-2.ensures c.in_ok-push_lid-2.ensures)
