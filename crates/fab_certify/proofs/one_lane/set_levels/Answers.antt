use Rattle.std.proofs.Common.{◌≡◌, length, Some, slice_get, slice_index_or, sym, ◌∙◌, ap, subst, arith}
use Rattle.std.proofs.lemmas.Bool.{both_ways}
use Rattle.std.proofs.lemmas.Option.{slice_get-get_or}
use Rattle.fab_model.specs.Topology.{Topology, place_of}
use Rattle.fab_model.specs.Connected.{AreConnected}
use Rattle.fab_tables.proofs.Paths.FallingRoutes.{place_below}
use Rattle.fab_tables.specs.declared.starts.Start.{Start}
use Rattle.fab_tables.proofs.Faults.RouteFaults.{apart_by}
use Rattle.fab_certify.proofs.Engines.OneLane.{none_leveled, start_low, leveled_more, leveled_same, all_leveled}
use Rattle.fab_certify.proofs.one_lane.set_levels.Goals as goal
use Rattle.fab_certify.proofs.one_lane.set_levels.Goals.{then-are_connected, else-are_connected}

abbrev no_start : Start
no_start = record { switch = record { 0 = 0 }; port = 0 }

pub are_connected-requires-clause-first : goal.are_connected-requires-clause-first
are_connected-requires-clause-first c =
    let starts = c.args.starts.now in
    let k = c.loop-start.start-index in
    omega (
      arith,
      ap (λ (t : Topology). length t.switches) c.requires.components,
      start_low c.args.fabric.now c.requires.fabric c.args.lid.0 c.requires.in_use starts c.requires.starts c.args.lanes.now c.loop-start.lanes k (slice_index_or starts k no_start) (slice_get-get_or starts k no_start c.loop-start-test.true) c.loop-start.invariant,
    )

pub are_connected-requires-clause-second : goal.are_connected-requires-clause-second
are_connected-requires-clause-second c =
    let at : place_of c.args.fabric.now c.args.lid.0 ≡ Some c.in-Some.place = sym c.place_of.ensures ∙ c.in-Some.is in
    omega (arith, ap (λ (t : Topology). length t.switches) c.requires.components, place_below c.args.fabric.now c.requires.fabric.rows c.args.lid.0 c.in-Some.place at)

pub set_level-requires-clause-switch : goal.set_level-requires-clause-switch
set_level-requires-clause-switch c =
    let starts = c.args.starts.now in
    let k = c.loop-start.start-index in
    omega (
      arith,
      c.loop-start.invariant.leveling.fits.switches,
      start_low c.args.fabric.now c.requires.fabric c.args.lid.0 c.requires.in_use starts c.requires.starts c.args.lanes.now c.loop-start.lanes k (slice_index_or starts k no_start) (slice_get-get_or starts k no_start c.loop-start-test.true) c.loop-start.invariant,
    )

pub set_level-requires-clause-in_use : goal.set_level-requires-clause-in_use
set_level-requires-clause-in_use c = rw c.loop-start.invariant.leveling.fits.in_use c.requires.in_use

pub loop-start-init : goal.loop-start-init
loop-start-init c = none_leveled c.args.fabric.now c.args.lid.0 c.args.starts.now c.args.lanes.now c.requires.before

pub loop-start-preserved : goal.loop-start-preserved
loop-start-preserved c =
    let t = c.args.fabric.now in
    let lid = c.args.lid.0 in
    let starts = c.args.starts.now in
    let k = c.loop-start.start-index in
    let start = slice_index_or starts k no_start in
    let at : slice_get starts k ≡ Some start = slice_get-get_or starts k no_start c.loop-start-test.true in
    let home : place_of t lid ≡ Some c.in-Some.place = sym c.place_of.ensures ∙ c.in-Some.is in
    elim c.if-are_connected.branch [
      | then-are_connected w ↦
          (let joined : AreConnected t start.switch.0 c.in-Some.place.switch.0 = subst (λ x. AreConnected x start.switch.0 c.in-Some.place.switch.0) c.requires.components (c.are_connected.ensures.0 w.if-are_connected.true) in
          rw (w.lanes-is, w.set_level.ensures) (leveled_more t c.requires.fabric lid c.requires.in_use starts c.requires.starts c.args.lanes.now c.loop-start.lanes k start at c.loop-start.invariant (c.in-Some.place, home, joined)))
      | else-are_connected w ↦
          rw w.lanes-is (leveled_same t c.requires.fabric lid c.requires.in_use starts c.requires.starts c.args.lanes.now c.loop-start.lanes k start at c.loop-start.invariant
          (apart_by t lid c.in-Some.place start.switch.0 home (λ joined.
          both_ways c.are_connected.result w.if-are_connected.false (c.are_connected.ensures.1 (subst (λ x. AreConnected x start.switch.0 c.in-Some.place.switch.0) (sym c.requires.components) joined)))))
    ]

pub returns-clause-has : goal.returns-clause-has
returns-clause-has c = all_leveled c.args.fabric.now c.args.lid.0 c.args.starts.now c.requires.starts c.args.lanes.now c.loop-start.lanes c.loop-start.start-index c.loop-start.invariant c.loop-start-test.false
