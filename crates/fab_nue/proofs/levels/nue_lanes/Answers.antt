use Rattle.std.proofs.Common.{◌≡◌, ◌<◌, ◌+◌, ◌⊎◌, ℕ, Option, length, arith, sym, ◌∙◌, ap, subst, slice_index_or, slice_get, Some, Contains}
use Rattle.std.specs.Prelude.{IsSome, IfSome, option_copied}
use Rattle.std.proofs.lemmas.Bool.{both_ways}
use Rattle.fab_model.specs.Topology.{Topology, lids_of, place_of, is_source}
use Rattle.fab_model.specs.Connected.{AreConnected, IsConnectedTo}
use Rattle.fab_model.proofs.LidsInUse.{as_many, number_at, contains_lid}
use Rattle.fab_sssp.proofs.Tables.LidPlaces.{has_place}
use Rattle.fab_tables.specs.Fit.{IsSource}
use Rattle.fab_tables.specs.LaneTables.{LaneTables, with_level}
use Rattle.fab_tables.proofs.Paths.FallingRoutes.{place_below, connected_below}
use Rattle.fab_tables.proofs.Faults.RouteFaults.{apart_by}
use Rattle.fab_nue.specs.Levels.{level_given}
use Rattle.fab_nue.specs.NuePlan.{IsNueLevel}
use Rattle.fab_nue.proofs.Lanes.Leveling.{AreLeveled, IsBefore, none_leveled, leveled_same, one_leveled, switch_passes, switch_set, lid_ends, all_leveled}
use Rattle.fab_nue.proofs.levels.nue_lanes.Goals as goal
use Rattle.fab_nue.proofs.levels.nue_lanes.Goals.{then-has_terminal+then-are_connected, else-has_terminal, else-has_terminal-via-then-has_terminal+else-are_connected, else-has_terminal-via-else-has_terminal}

pub loop-lid-init : goal.loop-lid-init
loop-lid-init c = none_leveled c.args.fabric.now c.args.count (λ s lid. level_given c.args.fabric.now c.args.count (option_copied c.args.old) c.args.kept.now s lid) c.in_ok-lanes.lanes c.in_ok-lanes.ensures

pub unwrap-place-requires : goal.unwrap-place-requires
unwrap-place-requires c =
    let t = c.args.fabric.now in
    let lids = c.lids_in_use-lid-items.result.now in
    let k = c.loop-lid.lid-index in
    subst (λ o. IsSome o) (sym c.place_of.ensures)
    (has_place t (slice_index_or lids k (record { 0 = 0 })).0 (contains_lid lids (lids_of t) c.lids_in_use-lid-items.ensures.lids k (record { 0 = 0 }) c.loop-lid-test.true))

pub are_connected-requires-clause-second : goal.are_connected-requires-clause-second
are_connected-requires-clause-second c =
    let t = c.args.fabric.now in
    let lid = slice_index_or c.lids_in_use-lid-items.result.now c.loop-lid.lid-index (record { 0 = 0 }) in
    omega (
      arith,
      ap (λ (x : Topology). length x.switches) c.requires.components,
      place_below t c.lids_in_use-lid-items.ensures.kept.rows lid.0 c.unwrap-place.result (sym c.place_of.ensures ∙ c.unwrap-place.ensures),
    )

pub set_level-requires-clause-switch : goal.set_level-requires-clause-switch
set_level-requires-clause-switch c = omega (arith, c.loop-s.invariant.fits.switches, c.loop-s-test.true, c.switches-s-end.ensures.count)

pub set_level-requires-clause-in_use : goal.set_level-requires-clause-in_use
set_level-requires-clause-in_use c =
    let lids = c.lids_in_use-lid-items.result.now in
    let k = c.loop-lid.lid-index in
    let lid = slice_index_or lids k (record { 0 = 0 }) in
    subst (λ ns. Contains ns lid.0) (sym c.loop-s.invariant.fits.in_use) (contains_lid lids (lids_of c.args.fabric.now) c.lids_in_use-lid-items.ensures.lids k (record { 0 = 0 }) c.loop-lid-test.true)

pub set_level-requires-clause-level : goal.set_level-requires-clause-level
set_level-requires-clause-level c =
    let t = c.args.fabric.now in
    let lids = c.lids_in_use-lid-items.result.now in
    let k = c.loop-lid.lid-index in
    let lid = slice_index_or lids k (record { 0 = 0 }) in
    let s = c.loop-s.s in
    let place = c.unwrap-place.result in
    let home : place_of t lid.0 ≡ Some place = sym c.place_of.ensures ∙ c.unwrap-place.ensures in
    let joined : AreConnected t s place.switch.0 = subst (λ x. AreConnected x s place.switch.0) c.requires.components (c.are_connected.ensures.0 c.if-are_connected.true) in
    let g = c.requires.low s lid.0 (sym c.has_terminal.ensures ∙ c.if-has_terminal.true) (place, home, joined) in
    subst (λ o. IfSome o (λ n. n < 16)) (sym (c.level_for-level.ensures ∙ g.1)) (omega (arith, g.2, c.requires.count.1))

pub loop-s-preserved : goal.loop-s-preserved
loop-s-preserved c =
    let t = c.args.fabric.now in
    let given : ℕ → ℕ → Option ℕ = λ x n. level_given t c.args.count (option_copied c.args.old) c.args.kept.now x n in
    let lids = c.lids_in_use-lid-items.result.now in
    let k = c.loop-lid.lid-index in
    let s = c.loop-s.s in
    let lid = slice_index_or lids k (record { 0 = 0 }) in
    let place = c.unwrap-place.result in
    let there : k < length (lids_of t) = omega (arith, as_many lids (lids_of t) c.lids_in_use-lid-items.ensures.lids, c.loop-lid-test.true) in
    let at : slice_index_or (lids_of t) k 0 ≡ lid.0 = number_at lids (lids_of t) c.lids_in_use-lid-items.ensures.lids k (record { 0 = 0 }) 0 c.loop-lid-test.true in
    let low : s < length t.switches = omega (arith, c.loop-s-test.true, c.switches-s-end.ensures.count) in
    let home : place_of t lid.0 ≡ Some place = sym c.place_of.ensures ∙ c.unwrap-place.ensures in
    let P : LaneTables → Type 0 = λ l. AreLeveled t c.args.count given (IsBefore (lids_of t) k (s + 1)) l in
    elim c.if-has_terminal.branch [
      | then-has_terminal+then-are_connected w ↦
          (let joined : AreConnected t s place.switch.0 = subst (λ x. AreConnected x s place.switch.0) c.requires.components (w.are_connected.ensures.0 w.if-are_connected.true) in
          let source : IsSource t s = sym c.has_terminal.ensures ∙ w.if-has_terminal.true in
          let connected : IsConnectedTo t s lid.0 = (place, home, joined) in
          let g = c.requires.low s lid.0 source connected in
          let Q : Option ℕ → Type 0 = λ o. P (with_level c.loop-s.lanes s lid.0 o) in
          subst P (sym (w.lanes-is ∙ w.set_level.ensures))
          (subst Q (sym (w.level_for-level.ensures ∙ g.1))
          (leveled_same t c.args.count given (λ x n. IsBefore (lids_of t) k s x n ⊎ ((x ≡ s) × (n ≡ lid.0))) (IsBefore (lids_of t) k (s + 1)) (with_level c.loop-s.lanes s lid.0 (Some g.0))
          (λ x n so co also. switch_set t (lids_of t) k s lid.0 n x at also)
          (one_leveled t c.args.count given (IsBefore (lids_of t) k s) c.loop-s.lanes s lid.0 g.0 c.loop-s.invariant low
          (contains_lid lids (lids_of t) c.lids_in_use-lid-items.ensures.lids k (record { 0 = 0 }) c.loop-lid-test.true) source connected g.1 (omega (arith, g.2, c.requires.count.1))))))
      | else-has_terminal w ↦
          subst P (sym w.lanes-is)
          (leveled_same t c.args.count given (IsBefore (lids_of t) k s) (IsBefore (lids_of t) k (s + 1)) c.loop-s.lanes
          (λ x n so co also. switch_passes t (lids_of t) k s lid.0 n there at x (λ over. elim w.else-has_terminal.branch [
            | else-has_terminal-via-then-has_terminal+else-are_connected u ↦
                apart_by t lid.0 place s home
                (λ joined. both_ways u.are_connected.result u.if-are_connected.false (u.are_connected.ensures.1 (subst (λ x. AreConnected x s place.switch.0) (sym c.requires.components) joined)))
                over.1
            | else-has_terminal-via-else-has_terminal u ↦ both_ways (is_source t s) (sym c.has_terminal.ensures ∙ u.if-has_terminal.false) over.0
          ]) so co also) c.loop-s.invariant)
    ]

pub loop-lid-preserved : goal.loop-lid-preserved
loop-lid-preserved c =
    let t = c.args.fabric.now in
    let given : ℕ → ℕ → Option ℕ = λ x n. level_given t c.args.count (option_copied c.args.old) c.args.kept.now x n in
    leveled_same t c.args.count given (IsBefore (lids_of t) c.loop-lid.lid-index c.loop-s.s) (IsBefore (lids_of t) (c.loop-lid.lid-index + 1) 0) c.loop-s.lanes
    (λ s lid so co also. lid_ends t (lids_of t) c.loop-lid.lid-index c.loop-s.s s lid (omega (arith, c.loop-s-test.false, c.switches-s-end.ensures.count)) (connected_below t c.lids_in_use-lid-items.ensures.kept.rows s lid co) also)
    c.loop-s.invariant

pub returns-clause-levels : goal.returns-clause-levels
returns-clause-levels c =
    let t = c.args.fabric.now in
    all_leveled t c.args.count (λ x n. level_given t c.args.count (option_copied c.args.old) c.args.kept.now x n) (λ s lid n. IsNueLevel t c.args.count (option_copied c.args.old) c.args.kept.now s lid n) c.loop-lid.lanes
    c.loop-lid.lid-index 0 (omega (arith, c.loop-lid-test.false, as_many c.lids_in_use-lid-items.result.now (lids_of t) c.lids_in_use-lid-items.ensures.lids)) c.loop-lid.invariant
    (λ s lid so co. let g = c.requires.low s lid so co in (g.0, g.1, g.3))
