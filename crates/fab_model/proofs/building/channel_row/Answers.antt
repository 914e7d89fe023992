use Rattle.std.proofs.Common.{refl, rules}
use Rattle.std.proofs.lemmas.List.Sorted.{answers_always}
use Rattle.fab_model.specs.declared.rows.SwitchRow.{SwitchRow}
use Rattle.fab_model.proofs.building.channel_row.Goals as goal

pub returns : goal.returns
returns c =
    let tail = c.number_by_guid.ensures.number (λ (row : SwitchRow). row.guid) (answers_always _ _ _ (λ f a r g h. search rules)) c.requires.rise in
    let tip = c.number_by_guid-2.ensures.number (λ (row : SwitchRow). row.guid) (answers_always _ _ _ (λ f a r g h. search rules)) c.requires.rise in
    rw (tail, tip) refl
