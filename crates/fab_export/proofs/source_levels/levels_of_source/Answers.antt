use Rattle.std.proofs.Common.{◌≡◌, ℕ, ◌+◌, ◌++◌, ◌∷◌, [], List, Option, map, take, slice_index_or, sym, ◌∙◌, ap}
use Rattle.std.proofs.lemmas.List.{map-append}
use Rattle.fab_model.specs.declared.rows.Lid.{Lid}
use Rattle.fab_model.specs.Topology.{lids_of}
use Rattle.fab_model.proofs.LidsInUse.{one_lid_more}
use Rattle.fab_export.specs.LevelsInUse.{level_to}
use Rattle.fab_export.proofs.source_levels.levels_of_source.Goals as goal

row_more : (f : ℕ → Option ℕ) (old new : List (Option ℕ)) (before after : List ℕ) (lid : ℕ) (found : Option ℕ) → new ≡ old ++ found ∷ [] → old ≡ map f before → found ≡ f lid → before ++ lid ∷ [] ≡ after
    → new ≡ map f after
row_more f old new before after lid found pushed are told more =
    pushed ∙ ap (λ row. row ++ found ∷ []) are ∙ ap (λ o. map f before ++ o ∷ []) told ∙ sym (map-append f before (lid ∷ [])) ∙ ap (map f) more

pub loop-lid-preserved : goal.loop-lid-preserved
loop-lid-preserved c =
    let t = c.args.reached.now.fabric in
    let k = c.loop-lid.lid-index in
    let lids = c.lids-lid-items.result.now in
    let lid : Lid = slice_index_or lids k (record { 0 = 0 }) in
    row_more (level_to t c.args.reached.now.entries c.args.lanes.now c.args.source.0) c.loop-lid.row.items c.push.new.self.items (take k (lids_of t)) (take (k + 1) (lids_of t)) lid.0 c.level_to.result
    c.in_ok-push.ensures.items c.loop-lid.invariant c.level_to.ensures.level (one_lid_more lids (lids_of t) c.lids-lid-items.ensures.lids k (record { 0 = 0 }) c.loop-lid-test.true)
