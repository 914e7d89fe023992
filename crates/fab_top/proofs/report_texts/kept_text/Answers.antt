use Rattle.fab_top.proofs.Repairing.{kept_told}
use Rattle.fab_top.proofs.report_texts.kept_text.Goals as goal

pub returns : goal.returns
returns c =
    kept_told c.args.fabric.now c.args.kept.now c.lids-kept.result.now _ _ _ _ c.lids-kept.ensures c.lids.ensures.count c.in_ok-text.ensures c.in_ok-push_kept_lids.ensures c.in_ok-extend_from_slice.ensures.items
