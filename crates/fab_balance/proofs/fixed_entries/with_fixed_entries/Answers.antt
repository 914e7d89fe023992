use Rattle.std.proofs.Common.{◌≡◌, slice_index_or, sym, ◌∙◌, arith}
use Rattle.fab_model.specs.declared.rows.Lid.{Lid}
use Rattle.fab_model.specs.Topology.{lids_of}
use Rattle.fab_model.proofs.LidsInUse.{as_many, number_at, contains_lid}
use Rattle.fab_tables.proofs.Paths.FallingRoutes.{place_below}
use Rattle.fab_balance.proofs.LidPlaces.{has_place}
use Rattle.fab_balance.proofs.Placing.{none_placed, one_placed, all_placed}
use Rattle.fab_balance.proofs.fixed_entries.with_fixed_entries.Goals as goal

pub unwrap-place-requires : goal.unwrap-place-requires
unwrap-place-requires c =
    rw c.place_of.ensures
    (has_place c.args.fabric.now c.lids_in_use-lid-items.ensures.kept.rows _ (contains_lid c.lids_in_use-lid-items.result.now (lids_of c.args.fabric.now) c.lids_in_use-lid-items.ensures.lids c.loop-lid.lid-index _ c.loop-lid-test.true))

pub set-requires : goal.set-requires
set-requires c = record {
  switch = omega (arith, c.loop-lid.invariant.fits.switches, place_below c.args.fabric.now c.lids_in_use-lid-items.ensures.kept.rows _ c.unwrap-place.result (sym c.place_of.ensures ∙ c.unwrap-place.ensures));
  in_use = rw c.loop-lid.invariant.fits.in_use (contains_lid c.lids_in_use-lid-items.result.now (lids_of c.args.fabric.now) c.lids_in_use-lid-items.ensures.lids c.loop-lid.lid-index _ c.loop-lid-test.true);
}

pub loop-lid-init : goal.loop-lid-init
loop-lid-init c = none_placed c.args.fabric.now c.in_ok-tables.tables c.lids_in_use-lid-items.ensures.kept c.in_ok-tables.ensures

pub loop-lid-preserved : goal.loop-lid-preserved
loop-lid-preserved c =
    let t = c.args.fabric.now in
    let lids = c.lids_in_use-lid-items.result.now in
    let are = c.lids_in_use-lid-items.ensures.lids in
    let k = c.loop-lid.lid-index in
    let lid : Lid = slice_index_or lids k (record { 0 = 0 }) in
    let here : slice_index_or (lids_of t) k 0 ≡ lid.0 = number_at lids (lids_of t) are k (record { 0 = 0 }) 0 c.loop-lid-test.true in
    rw c.set.ensures
    (one_placed t c.lids_in_use-lid-items.ensures.kept c.loop-lid.tables k lid.0 c.unwrap-place.result c.loop-lid.invariant (omega (arith, as_many lids (lids_of t) are)) here
    (sym c.place_of.ensures ∙ c.unwrap-place.ensures) (omega arith))

pub returns : goal.returns
returns c = all_placed c.args.fabric.now c.loop-lid.tables c.loop-lid.lid-index c.loop-lid.invariant
    (omega (arith, as_many c.lids_in_use-lid-items.result.now (lids_of c.args.fabric.now) c.lids_in_use-lid-items.ensures.lids))
