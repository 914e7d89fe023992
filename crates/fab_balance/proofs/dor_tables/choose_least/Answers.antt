use Rattle.std.proofs.Common.{◌≡◌, Some, slice_index_or, sym, ◌∙◌, arith}
use Rattle.fab_model.specs.declared.rows.Lid.{Lid}
use Rattle.fab_model.specs.Topology.{lids_of, place_of}
use Rattle.fab_model.proofs.LidsInUse.{as_many, number_at, contains_lid}
use Rattle.fab_tables.proofs.Paths.FallingRoutes.{place_below}
use Rattle.fab_balance.specs.MinHop.{IsDorChoice}
use Rattle.fab_balance.specs.Eligible.{IsLeastNearerPort}
use Rattle.fab_balance.proofs.Choosing.{none_chosen, all_chosen, one_passed, one_chosen, nearer_is_chosen, none_is_chosen}
use Rattle.fab_balance.proofs.LidPlaces.{has_place}
use Rattle.fab_balance.proofs.dor_tables.choose_least.Goals as goal
use Rattle.fab_balance.proofs.dor_tables.choose_least.Goals.{in-Some, in_default}

pub unwrap-place-requires : goal.unwrap-place-requires
unwrap-place-requires c =
    rw c.place_of.ensures
    (has_place c.args.fabric.now c.requires.fabric.rows _ (contains_lid c.lids_in_use-lid-items.result.now (lids_of c.args.fabric.now) c.lids_in_use-lid-items.ensures.lids c.loop-lid.lid-index _ c.loop-lid-test.true))

pub least_nearer_port-requires : goal.least_nearer_port-requires
least_nearer_port-requires c = record {
  fabric = c.requires.fabric;
  hops = c.requires.hops;
  from = c.requires.switch;
  to = place_below c.args.fabric.now c.requires.fabric.rows _ c.unwrap-place.result (sym c.place_of.ensures ∙ c.unwrap-place.ensures);
}

pub set-requires : goal.set-requires
set-requires c = record {
  switch = omega (arith, c.loop-lid.invariant.fixed.fits.switches);
  in_use = rw c.loop-lid.invariant.fixed.fits.in_use (contains_lid c.lids_in_use-lid-items.result.now (lids_of c.args.fabric.now) c.lids_in_use-lid-items.ensures.lids c.loop-lid.lid-index _ c.loop-lid-test.true);
}

pub loop-lid-init : goal.loop-lid-init
loop-lid-init c = none_chosen c.args.fabric.now (λ e. IsDorChoice c.args.fabric.now) c.args.s.0 c.args.tables.now c.requires.fixed

pub loop-lid-preserved : goal.loop-lid-preserved
loop-lid-preserved c =
    let t = c.args.fabric.now in
    let s = c.args.s.0 in
    let lids = c.lids_in_use-lid-items.result.now in
    let are = c.lids_in_use-lid-items.ensures.lids in
    let k = c.loop-lid.lid-index in
    let lid : Lid = slice_index_or lids k (record { 0 = 0 }) in
    let here : slice_index_or (lids_of t) k 0 ≡ lid.0 = number_at lids (lids_of t) are k (record { 0 = 0 }) 0 c.loop-lid-test.true in
    let place = c.unwrap-place.result in
    let at : place_of t lid.0 ≡ Some place = sym c.place_of.ensures ∙ c.unwrap-place.ensures in
    elim c.match-least_nearer_port.branch [
      | in-Some w ↦
          let least : IsLeastNearerPort t s place.switch.0 w.in-Some.port = w.in-Some.ensures in
          rw (w.tables-is, w.set.ensures)
          (one_chosen t c.requires.fabric (λ e. IsDorChoice t) s c.args.tables.now c.loop-lid.tables k lid.0 c.loop-lid.invariant (omega (arith, as_many lids (lids_of t) are)) here
          w.in-Some.port place at (nearer_is_chosen t s lid.0 w.in-Some.port place at least.holds) (omega arith) c.requires.switch (λ n to p less meets. meets) least)
      | in_default w ↦
          rw w.tables-is
          (one_passed t c.requires.fabric (λ e. IsDorChoice t) s c.args.tables.now c.loop-lid.tables k lid.0 c.loop-lid.invariant (omega (arith, as_many lids (lids_of t) are)) here
          (none_is_chosen t c.requires.fabric.rows s lid.0 place at w.in_default.ensures))
    ]

pub returns : goal.returns
returns c = record {
  fixed = c.loop-lid.invariant.fixed;
  chosen = all_chosen c.args.fabric.now (λ e. IsDorChoice c.args.fabric.now) c.args.s.0 c.args.tables.now c.loop-lid.tables c.loop-lid.lid-index c.loop-lid.invariant
      (omega (arith, as_many c.lids_in_use-lid-items.result.now (lids_of c.args.fabric.now) c.lids_in_use-lid-items.ensures.lids));
  others = c.loop-lid.invariant.others;
}
