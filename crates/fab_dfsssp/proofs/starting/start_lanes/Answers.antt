use Rattle.std.proofs.Common.{◌≡◌, ◌<◌, length, arith, sym, ◌∙◌, ap, subst, slice_index_or, slice_get, Some, Contains}
use Rattle.std.specs.Prelude.{IsSome}
use Rattle.std.proofs.lemmas.Bool.{both_ways}
use Rattle.fab_model.specs.Topology.{Topology, lids_of, place_of, is_source}
use Rattle.fab_model.specs.Connected.{AreConnected}
use Rattle.fab_model.proofs.LidsInUse.{as_many, lid_there, contains_lid}
use Rattle.fab_sssp.proofs.Tables.LidPlaces.{has_place}
use Rattle.fab_tables.proofs.Paths.FallingRoutes.{place_below, connected_below}
use Rattle.fab_tables.proofs.Faults.RouteFaults.{apart_by}
use Rattle.fab_dfsssp.proofs.LanesStarted.{IsPath, lanes_started}
use Rattle.fab_dfsssp.proofs.Releveling.{releveled_begins, lid_begins, lid_ends, level_left, level_set}
use Rattle.fab_dfsssp.proofs.starting.start_lanes.Goals as goal
use Rattle.fab_dfsssp.proofs.starting.start_lanes.Goals.{then-has_terminal+then-are_connected, else-has_terminal, else-has_terminal-via-then-has_terminal+else-are_connected, else-has_terminal-via-else-has_terminal}

pub loop-lid-init : goal.loop-lid-init
loop-lid-init c =
    let t = c.args.fabric.now in
    (c.in_ok-lanes.lanes, c.in_ok-lanes.ensures, releveled_begins t (IsPath t) 0 (lids_of t) c.in_ok-lanes.lanes c.in_ok-lanes.ensures.fits c.in_ok-lanes.ensures.maps)

pub unwrap-place-requires : goal.unwrap-place-requires
unwrap-place-requires c =
    let t = c.args.fabric.now in
    let lids = c.lids_in_use-lid-items.result.now in
    let k = c.loop-lid.lid-index in
    subst (λ o. IsSome o) (sym c.place_of.ensures)
    (has_place t (slice_index_or lids k (record { 0 = 0 })).0 (contains_lid lids (lids_of t) c.lids_in_use-lid-items.ensures.lids k (record { 0 = 0 }) c.loop-lid-test.true))

pub loop-s-init : goal.loop-s-init
loop-s-init c =
    let t = c.args.fabric.now in (
      c.loop-lid.invariant.0,
      c.loop-lid.invariant.1,
      lid_begins t (IsPath t) 0 c.loop-lid.invariant.0 c.loop-lid.lanes (lids_of t) c.loop-lid.lid-index c.loop-lid.invariant.2,
    )

pub are_connected-requires-clause-second : goal.are_connected-requires-clause-second
are_connected-requires-clause-second c =
    let t = c.args.fabric.now in
    let lid = slice_index_or c.lids_in_use-lid-items.result.now c.loop-lid.lid-index (record { 0 = 0 }) in
    omega (
      arith,
      ap (λ (x : Topology). length x.switches) c.in_ok-components.ensures,
      place_below t c.lids_in_use-lid-items.ensures.kept.rows lid.0 c.unwrap-place.result (sym c.place_of.ensures ∙ c.unwrap-place.ensures),
    )

pub set_level-requires-clause-switch : goal.set_level-requires-clause-switch
set_level-requires-clause-switch c = omega (arith, c.loop-s.invariant.2.fits.switches, c.loop-s-test.true, c.switches-s-end.ensures.count)

pub set_level-requires-clause-in_use : goal.set_level-requires-clause-in_use
set_level-requires-clause-in_use c =
    let lids = c.lids_in_use-lid-items.result.now in
    let k = c.loop-lid.lid-index in
    let lid = slice_index_or lids k (record { 0 = 0 }) in
    subst (λ ns. Contains ns lid.0) (sym c.loop-s.invariant.2.fits.in_use) (contains_lid lids (lids_of c.args.fabric.now) c.lids_in_use-lid-items.ensures.lids k (record { 0 = 0 }) c.loop-lid-test.true)

pub loop-s-preserved : goal.loop-s-preserved
loop-s-preserved c =
    let t = c.args.fabric.now in
    let old = c.loop-s.invariant.0 in
    let now = c.loop-s.lanes in
    let lids = c.lids_in_use-lid-items.result.now in
    let k = c.loop-lid.lid-index in
    let s = c.loop-s.s in
    let lid = slice_index_or lids k (record { 0 = 0 }) in
    let place = c.unwrap-place.result in
    let at : slice_get (lids_of t) k ≡ Some lid.0 = lid_there lids (lids_of t) c.lids_in_use-lid-items.ensures.lids k (record { 0 = 0 }) c.loop-lid-test.true in
    let low : s < length t.switches = omega (arith, c.loop-s-test.true, c.switches-s-end.ensures.count) in
    let home : place_of t lid.0 ≡ Some place = sym c.place_of.ensures ∙ c.unwrap-place.ensures in (
      old,
      c.loop-s.invariant.1,
      elim c.if-has_terminal.branch [
        | then-has_terminal+then-are_connected w ↦
            (let joined : AreConnected t s place.switch.0 = subst (λ x. AreConnected x s place.switch.0) c.in_ok-components.ensures (w.are_connected.ensures.0 w.if-are_connected.true) in
            rw (w.lanes-is, w.set_level.ensures) (level_set t (IsPath t) 0 old now (lids_of t) k s lid.0 at c.loop-s.invariant.2 low
            (contains_lid lids (lids_of t) c.lids_in_use-lid-items.ensures.lids k (record { 0 = 0 }) c.loop-lid-test.true) (omega arith)
            (sym c.has_terminal.ensures ∙ w.if-has_terminal.true, (place, home, joined))))
        | else-has_terminal w ↦ rw w.lanes-is (level_left t (IsPath t) 0 old now (lids_of t) k s lid.0 at c.loop-s.invariant.2 (λ over. absurd (elim w.else-has_terminal.branch [
          | else-has_terminal-via-then-has_terminal+else-are_connected u ↦
              apart_by t lid.0 place s home
              (λ joined. both_ways u.are_connected.result u.if-are_connected.false (u.are_connected.ensures.1 (subst (λ x. AreConnected x s place.switch.0) (sym c.in_ok-components.ensures) joined)))
              over.1
          | else-has_terminal-via-else-has_terminal u ↦ both_ways (is_source t s) (sym c.has_terminal.ensures ∙ u.if-has_terminal.false) over.0
        ])))
      ],
    )

pub loop-lid-preserved : goal.loop-lid-preserved
loop-lid-preserved c =
    let t = c.args.fabric.now in (
      c.loop-s.invariant.0,
      c.loop-s.invariant.1,
      lid_ends t (IsPath t) 0 c.loop-s.invariant.0 c.loop-s.lanes (lids_of t) c.loop-lid.lid-index c.loop-s.s
          (λ s lid over. omega (arith, connected_below t c.lids_in_use-lid-items.ensures.kept.rows s lid over.1, c.loop-s-test.false, c.switches-s-end.ensures.count)) c.loop-s.invariant.2,
    )

pub returns-clause-lanes : goal.returns-clause-lanes
returns-clause-lanes c =
    let t = c.args.fabric.now in
    lanes_started t c.args.count c.loop-lid.lid-index c.loop-lid.invariant.0 c.loop-lid.lanes c.loop-lid.invariant.1
    (omega (arith, c.loop-lid-test.false, as_many c.lids_in_use-lid-items.result.now (lids_of t) c.lids_in_use-lid-items.ensures.lids)) c.loop-lid.invariant.2
