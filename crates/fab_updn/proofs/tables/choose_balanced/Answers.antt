use Rattle.std.proofs.Common.{◌≡◌, ◌<◌, ◌^◌, Some, length, slice_index, slice_index_or, refl, sym, ap, subst, ◌∙◌, arith}
use Rattle.fab_model.specs.declared.rows.Lid.{Lid}
use Rattle.fab_model.specs.Topology.{lids_of, place_of}
use Rattle.fab_model.proofs.LidsInUse.{as_many, number_at, contains_lid}
use Rattle.fab_tables.proofs.Paths.FallingRoutes.{place_below}
use Rattle.fab_tables.specs.Entries.{Entries}
use Rattle.fab_updn.specs.UpDown.{IsUpDownChoice}
use Rattle.fab_balance.proofs.LidPlaces.{has_place}
use Rattle.fab_tables.proofs.Rows.EntriesSet.{entries_keep}
use Rattle.fab_balance.proofs.Choosing.{all_chosen}
use Rattle.fab_balance.proofs.Balancing.{counter_small}
use Rattle.fab_updn.proofs.Balancing.{IsOneMore, none_balanced, one_picked, none_picked, counted, not_counted}
use Rattle.fab_updn.proofs.Eligibility.{IsLegalBy, ports_are, is_eligibility}
use Rattle.fab_updn.specs.Found.{costs_of, AreLegalPorts}
use Rattle.fab_updn.proofs.tables.choose_balanced.Goals as goal
use Rattle.fab_updn.proofs.tables.choose_balanced.Goals.{in-Some, in_default, then-place-gt0, else-place-gt0}

pub loop-lid-init : goal.loop-lid-init
loop-lid-init c = none_balanced c.args.fabric.now c.requires.fabric (IsLegalBy c.args.fabric.now c.args.ranks.now c.args.costs.now) c.args.s.0 c.args.tables.now c.requires.fixed

pub unwrap-place-requires : goal.unwrap-place-requires
unwrap-place-requires c =
    rw c.place_of.ensures
    (has_place c.args.fabric.now c.requires.fabric.rows _ (contains_lid c.lids_in_use-lid-items.result.now (lids_of c.args.fabric.now) c.lids_in_use-lid-items.ensures.lids c.loop-lid.lid-index _ c.loop-lid-test.true))

pub find_legal_ports-requires : goal.find_legal_ports-requires
find_legal_ports-requires c =
    let t = c.args.fabric.now in
    let low : c.unwrap-place.result.switch.0 < length t.switches = place_below t c.requires.fabric.rows _ c.unwrap-place.result (sym c.place_of.ensures ∙ c.unwrap-place.ensures) in
    record {
      fabric = c.requires.fabric;
      ranks = c.requires.ranks;
      costs = rw c.to-toward.ensures (c.requires.costs.each c.unwrap-place.result.switch.0 low).whole;
      switch = c.requires.switch;
    }

pub to-toward-requires : goal.to-toward-requires
to-toward-requires c = omega (arith, c.requires.costs.whole, place_below c.args.fabric.now c.requires.fabric.rows _ c.unwrap-place.result (sym c.place_of.ensures ∙ c.unwrap-place.ensures))

pub set-requires : goal.set-requires
set-requires c = record {
  switch = omega (arith, c.loop-lid.invariant.choosing.fixed.fits.switches);
  in_use = rw c.loop-lid.invariant.choosing.fixed.fits.in_use (contains_lid c.lids_in_use-lid-items.result.now (lids_of c.args.fabric.now) c.lids_in_use-lid-items.ensures.lids c.loop-lid.lid-index _ c.loop-lid-test.true);
}

pub get-requires : goal.get-requires
get-requires c =
    let low : c.args.s.0 < c.loop-lid.tables.switches = omega (arith, c.loop-lid.invariant.choosing.fixed.fits.switches) in
    elim c.match-pick.branch [
      | in-Some w ↦ omega (arith, low, ap (λ (e : Entries). e.switches) (w.tables-is ∙ w.set.ensures), (entries_keep c.loop-lid.tables c.args.s.0 (slice_index_or c.lids_in_use-lid-items.result.now c.loop-lid.lid-index (record { 0 = 0 })).0 w.in-Some.port).0)
      | in_default w ↦ omega (arith, low, ap (λ (e : Entries). e.switches) w.tables-is)
    ]

pub overflow_add-loads : goal.overflow_add-loads
overflow_add-loads c =
    let lids = c.lids_in_use-lid-items.result.now in
    let are = c.lids_in_use-lid-items.ensures.lids in
    let k = c.loop-lid.lid-index in
    let t = c.args.fabric.now in
    let room : slice_index c.loop-lid.loads c.get.result < 2 ^ 16 =
    counter_small t c.requires.fabric c.loop-lid.tables c.args.s.0 k _ c.get.result c.loop-lid.loads c.loop-lid.invariant.counters (omega (arith, as_many lids (lids_of t) are)) (number_at lids (lids_of t) are k (record { 0 = 0 }) 0 c.loop-lid-test.true) c.get.type_inv in
    omega (arith, room)

pub loop-lid-preserved : goal.loop-lid-preserved
loop-lid-preserved c =
    let t = c.args.fabric.now in
    let good = c.requires.fabric in
    let s = c.args.s.0 in
    let begun = c.args.tables.now in
    let old = c.loop-lid.tables in
    let new = c.match-pick.tables in
    let lids = c.lids_in_use-lid-items.result.now in
    let are = c.lids_in_use-lid-items.ensures.lids in
    let k = c.loop-lid.lid-index in
    let loads = c.loop-lid.loads in
    let lid : Lid = slice_index_or lids k (record { 0 = 0 }) in
    let low : k < length (lids_of t) = omega (arith, as_many lids (lids_of t) are) in
    let here : slice_index_or (lids_of t) k 0 ≡ lid.0 = number_at lids (lids_of t) are k (record { 0 = 0 }) 0 c.loop-lid-test.true in
    let place = c.unwrap-place.result in
    let at : place_of t lid.0 ≡ Some place = sym c.place_of.ensures ∙ c.unwrap-place.ensures in
    let ranks = c.args.ranks.now in
    let table = c.args.costs.now in
    let by = IsLegalBy t ranks table in
    let eligibility = is_eligibility t good.rows ranks table c.requires.costs c.requires.legal s c.requires.switch in
    let ports = c.deref.result.now in
    let listed : AreLegalPorts t ranks c.to-toward.result.now s ports = subst (λ xs. AreLegalPorts t ranks c.to-toward.result.now s xs) (sym c.deref.ensures.value) c.in_ok-find_legal_ports.ensures in
    let legal = ports_are t good.rows ranks table c.requires.costs s place.switch.0 ports c.requires.switch (place_below t good.rows lid.0 place at) (subst (λ xs. AreLegalPorts t ranks xs s ports) c.to-toward.ensures listed) in
    let more : IsOneMore t by s begun old new k lid.0 = elim c.match-pick.branch [
      | in-Some w ↦ rw (w.tables-is, w.set.ensures) (one_picked t good by s eligibility begun old k lid.0 place loads at low here c.requires.switch c.loop-lid.invariant ports legal w.in-Some.port (omega arith) w.in-Some.ensures.least)
      | in_default w ↦ rw w.tables-is (none_picked t good by s eligibility begun old k lid.0 place loads at low here c.requires.switch c.loop-lid.invariant ports legal (w.in_default.ensures.none.0 refl))
    ] in
    elim c.if-place-gt0.branch [
      | then-place-gt0 w ↦ rw (w.loads-is, w.get.ensures) (counted t good by s begun old new k lid.0 place loads at low here c.loop-lid.invariant.counters more w.if-place-gt0.true)
      | else-place-gt0 w ↦ rw w.loads-is (not_counted t good by s begun old new k lid.0 place loads at low here c.loop-lid.invariant.counters more w.if-place-gt0.false)
    ]

pub returns : goal.returns
returns c = record {
  fixed = c.loop-lid.invariant.choosing.fixed;
  chosen = all_chosen c.args.fabric.now (λ e. IsUpDownChoice c.args.fabric.now c.args.ranks.now (costs_of c.args.costs.now) e) c.args.s.0 c.args.tables.now c.loop-lid.tables c.loop-lid.lid-index c.loop-lid.invariant.choosing
      (omega (arith, as_many c.lids_in_use-lid-items.result.now (lids_of c.args.fabric.now) c.lids_in_use-lid-items.ensures.lids));
  others = c.loop-lid.invariant.choosing.others;
}
