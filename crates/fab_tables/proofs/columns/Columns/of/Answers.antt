use Rattle.std.proofs.Common.{◌≡◌, ℕ, List, slice_index_or, ◌++◌, [], ◌∷◌, sym, ◌∙◌, ap, subst, arith}
use Rattle.std.proofs.lemmas.List.{take_all}
use Rattle.fab_model.specs.declared.rows.Lid.{Lid}
use Rattle.fab_model.specs.Topology.{lids_of}
use Rattle.fab_model.proofs.LidsInUse.{as_many, one_lid_more}
use Rattle.fab_tables.specs.Columns.{AreLids, HasPlaces}
use Rattle.fab_tables.proofs.Joined.Ascending.{lids_are}
use Rattle.fab_tables.proofs.columns.Columns.of.Goals as goal

pub loop-lid-preserved : goal.loop-lid-preserved
loop-lid-preserved c =
    let in_use = c.lids_in_use-in_use.result.now in
    let none : Lid = record { 0 = 0 } in
    c.in_ok-push.ensures.items ∙ ap (λ (xs : List ℕ). xs ++ (slice_index_or in_use c.loop-lid.lid-index none).0 ∷ []) c.loop-lid.invariant
    ∙ one_lid_more in_use (lids_of c.args.fabric.now) c.lids_in_use-in_use.ensures.lids c.loop-lid.lid-index none c.loop-lid-test.true

pub places_of-requires : goal.places_of-requires
places_of-requires c =
    let count = as_many c.lids_in_use-in_use.result.now (lids_of c.args.fabric.now) c.lids_in_use-in_use.ensures.lids in
    let all : c.loop-lid.lids.items ≡ lids_of c.args.fabric.now = c.loop-lid.invariant ∙ take_all c.loop-lid.lid-index (lids_of c.args.fabric.now) (omega (arith, count)) in
    subst AreLids (sym (c.deref.ensures.value ∙ all)) (lids_are c.args.fabric.now c.lids_in_use-in_use.ensures.kept)

pub invariant_of-result : goal.invariant_of-result
invariant_of-result c =
    let count = as_many c.lids_in_use-in_use.result.now (lids_of c.args.fabric.now) c.lids_in_use-in_use.ensures.lids in
    let all : c.loop-lid.lids.items ≡ lids_of c.args.fabric.now = c.loop-lid.invariant ∙ take_all c.loop-lid.lid-index (lids_of c.args.fabric.now) (omega (arith, count)) in
    record {
      lids_kept = subst AreLids (sym all) (lids_are c.args.fabric.now c.lids_in_use-in_use.ensures.kept);
      places_kept = subst (λ xs. HasPlaces xs c.in_ok-places.places.items) c.deref.ensures.value c.in_ok-places.ensures;
    }

pub returns-clause-kept : goal.returns-clause-kept
returns-clause-kept c =
    let count = as_many c.lids_in_use-in_use.result.now (lids_of c.args.fabric.now) c.lids_in_use-in_use.ensures.lids in
    let all : c.loop-lid.lids.items ≡ lids_of c.args.fabric.now = c.loop-lid.invariant ∙ take_all c.loop-lid.lid-index (lids_of c.args.fabric.now) (omega (arith, count)) in
    subst AreLids (sym all) (lids_are c.args.fabric.now c.lids_in_use-in_use.ensures.kept)
