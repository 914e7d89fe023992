use Rattle.std.proofs.Common.{◌++◌, [], ◌∷◌, ap, sym, ◌∙◌}
use Rattle.std.proofs.lemmas.List.{map_push, append-nil}
use Rattle.fab_model.specs.declared.rows.Lid.{Lid}
use Rattle.fab_model.specs.Topology.{lid_id}
use Rattle.fab_model.specs.Indexed.{has_place}
use Rattle.fab_model.proofs.Tables.{filter_range_more}
use Rattle.fab_model.proofs.indexes.placed_lids.Goals as goal
use Rattle.fab_model.proofs.indexes.placed_lids.Goals.{then-is_some+in_ok-push, else-is_some}

pub loop-lid-preserved : goal.loop-lid-preserved
loop-lid-preserved c =
    let more = filter_range_more (has_place c.args.places.now) c.loop-lid.lid in
    elim c.if-is_some.branch [
      | then-is_some+in_ok-push w ↦
          let test = sym c.is_some.ensures ∙ w.if-is_some.true in
          rw (more, test, w.lids-is, w.in_ok-push.ensures.items) (map_push (λ (lid : Lid). lid.0) c.loop-lid.lids.items (lid_id c.loop-lid.lid) ∙ ap (λ front. front ++ c.loop-lid.lid ∷ []) c.loop-lid.invariant)
      | else-is_some w ↦
          let test = sym c.is_some.ensures ∙ w.if-is_some.false in
          rw (more, test, w.lids-is) (c.loop-lid.invariant ∙ sym (append-nil _))
    ]
