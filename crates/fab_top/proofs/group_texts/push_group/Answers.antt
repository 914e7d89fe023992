use Rattle.std.proofs.Common.{refl}
use Rattle.std.proofs.lemmas.Result.{on_ok_weaker}
use Rattle.fab_top.proofs.Appends.{appended_both}
use Rattle.fab_top.proofs.group_texts.push_group.Goals as goal

pub returns : goal.returns
returns c = on_ok_weaker c.push_entries.result
    (λ e. appended_both _ _ _ _ _ _ c.in_ok-push_group_head.ensures refl e)
    c.push_entries.ensures
