use Rattle.std.proofs.Common.{◌∙◌}
use Rattle.fab_top.proofs.Sweeping.{sweep_told}
use Rattle.fab_top.proofs.sweep_texts.sweep_text.Goals as goal

pub returns : goal.returns
returns c =
    sweep_told c.args.fabric.now c.args.rows.now _ _ _ _ _ _ _ _ _ c.losing.ensures (c.from.ensures ∙ c.least_kept.ensures) c.greatest_changed.ensures c.new-text.ensures.items
    c.in_ok-push_failure_lines.ensures c.in_ok-push_count.ensures c.in_ok-push_count-2.ensures c.in_ok-push_count-3.ensures c.in_ok-push_count-4.ensures
