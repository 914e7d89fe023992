use Rattle.std.proofs.Common.{◌≡◌, ◌<◌, ◌+◌, ℕ, length, Some, slice_get, slice_index_or, sym, ◌∙◌, ap, subst, arith}
use Rattle.std.proofs.lemmas.Bool.{both_ways}
use Rattle.std.proofs.lemmas.Option.{slice_get-get_or}
use Rattle.fab_model.specs.Topology.{Topology, place_of}
use Rattle.fab_model.specs.Connected.{AreConnected}
use Rattle.fab_tables.proofs.Paths.FallingRoutes.{place_below}
use Rattle.fab_tables.specs.declared.starts.Start.{Start}
use Rattle.fab_tables.specs.LaneTables.{LaneTables, with_level}
use Rattle.fab_tables.proofs.Faults.RouteFaults.{apart_by}
use Rattle.fab_lash.specs.Layerings.{layer_of_two}
use Rattle.fab_lash.specs.Leveling.{layer_for}
use Rattle.fab_lash.specs.PairLayers.{layer_at}
use Rattle.fab_lash.proofs.LayerLevels.{AreLeveled, for_place, start_low, leveled_more, leveled_same, all_leveled}
use Rattle.fab_lash.proofs.levels.set_levels.Goals as goal
use Rattle.fab_lash.proofs.levels.set_levels.Goals.{then-are_connected, else-are_connected}

abbrev no_start : Start
no_start = record { switch = record { 0 = 0 }; port = 0 }

pub are_connected-requires-clause-first : goal.are_connected-requires-clause-first
are_connected-requires-clause-first c =
    let t = c.args.fabric.now in
    let starts = c.args.starts.now in
    let k = c.loop-start.start-index in
    omega (
      arith,
      ap (λ (x : Topology). length x.switches) c.requires.components,
      start_low t (layer_for t (layer_at (length t.switches) c.args.layers.now)) c.requires.fabric c.args.lid.0 c.requires.in_use starts c.requires.starts c.args.lanes.now c.loop-start.lanes k (slice_index_or starts k no_start)
          (slice_get-get_or starts k no_start c.loop-start-test.true) c.loop-start.invariant,
    )

pub are_connected-requires-clause-second : goal.are_connected-requires-clause-second
are_connected-requires-clause-second c =
    let at : place_of c.args.fabric.now c.args.lid.0 ≡ Some c.in-Some.place = sym c.place_of.ensures ∙ c.in-Some.is in
    omega (arith, ap (λ (t : Topology). length t.switches) c.requires.components, place_below c.args.fabric.now c.requires.fabric.rows c.args.lid.0 c.in-Some.place at)

pub layer_of-layer-requires-clause-first : goal.layer_of-layer-requires-clause-first
layer_of-layer-requires-clause-first c =
    let t = c.args.fabric.now in
    let starts = c.args.starts.now in
    let k = c.loop-start.start-index in
    omega (
      arith,
      c.switches.ensures.count,
      start_low t (layer_for t (layer_at (length t.switches) c.args.layers.now)) c.requires.fabric c.args.lid.0 c.requires.in_use starts c.requires.starts c.args.lanes.now c.loop-start.lanes k (slice_index_or starts k no_start)
          (slice_get-get_or starts k no_start c.loop-start-test.true) c.loop-start.invariant,
    )

pub layer_of-layer-requires-clause-second : goal.layer_of-layer-requires-clause-second
layer_of-layer-requires-clause-second c =
    let at : place_of c.args.fabric.now c.args.lid.0 ≡ Some c.in-Some.place = sym c.place_of.ensures ∙ c.in-Some.is in
    omega (arith, c.switches.ensures.count, place_below c.args.fabric.now c.requires.fabric.rows c.args.lid.0 c.in-Some.place at)

pub set_level-requires-clause-switch : goal.set_level-requires-clause-switch
set_level-requires-clause-switch c =
    let t = c.args.fabric.now in
    let starts = c.args.starts.now in
    let k = c.loop-start.start-index in
    omega (
      arith,
      c.loop-start.invariant.leveling.fits.switches,
      start_low t (layer_for t (layer_at (length t.switches) c.args.layers.now)) c.requires.fabric c.args.lid.0 c.requires.in_use starts c.requires.starts c.args.lanes.now c.loop-start.lanes k (slice_index_or starts k no_start)
          (slice_get-get_or starts k no_start c.loop-start-test.true) c.loop-start.invariant,
    )

pub loop-start-preserved : goal.loop-start-preserved
loop-start-preserved c =
    let t = c.args.fabric.now in
    let lid = c.args.lid.0 in
    let starts = c.args.starts.now in
    let k = c.loop-start.start-index in
    let start = slice_index_or starts k no_start in
    let home = c.in-Some.place in
    let layer = layer_at (length t.switches) c.args.layers.now in
    let given = layer_for t layer in
    let at : slice_get starts k ≡ Some start = slice_get-get_or starts k no_start c.loop-start-test.true in
    let found : place_of t lid ≡ Some home = sym c.place_of.ensures ∙ c.in-Some.is in
    elim c.if-are_connected.branch [
      | then-are_connected w ↦
          (let joined : AreConnected t start.switch.0 home.switch.0 = subst (λ x. AreConnected x start.switch.0 home.switch.0) c.requires.components (c.are_connected.ensures.0 w.if-are_connected.true) in
          let theirs : given start.switch.0 lid ≡ layer_of_two layer start.switch.0 home.switch.0 = for_place t layer start.switch.0 lid home found in
          let same : w.layer_of-layer.result ≡ given start.switch.0 lid =
          w.layer_of-layer.ensures ∙ ap (λ n. layer_of_two (layer_at n c.args.layers.now) start.switch.0 home.switch.0) w.switches.ensures.count ∙ sym theirs in
          let small : given start.switch.0 lid < 16 = omega (arith, theirs, c.requires.below start.switch.0 home.switch.0 joined, c.requires.before.fits.whole.count) in
          let P : LaneTables → Type 0 = λ l. AreLeveled t given lid starts c.args.lanes.now l (k + 1) in
          let Q : ℕ → Type 0 = λ n. P (with_level c.loop-start.lanes start.switch.0 lid (Some n)) in
          subst P (sym (w.lanes-is ∙ w.set_level.ensures))
          (subst Q (sym same) (leveled_more t given c.requires.fabric lid c.requires.in_use starts c.requires.starts c.args.lanes.now c.loop-start.lanes k start at c.loop-start.invariant small (home, found, joined))))
      | else-are_connected w ↦
          (let P : LaneTables → Type 0 = λ l. AreLeveled t given lid starts c.args.lanes.now l (k + 1) in
          subst P (sym w.lanes-is)
          (leveled_same t given c.requires.fabric lid c.requires.in_use starts c.requires.starts c.args.lanes.now c.loop-start.lanes k start at c.loop-start.invariant
          (apart_by t lid home start.switch.0 found (λ joined.
          both_ways c.are_connected.result w.if-are_connected.false (c.are_connected.ensures.1 (subst (λ x. AreConnected x start.switch.0 home.switch.0) (sym c.requires.components) joined))))))
    ]

pub returns-clause-has : goal.returns-clause-has
returns-clause-has c =
    let t = c.args.fabric.now in
    all_leveled t (layer_for t (layer_at (length t.switches) c.args.layers.now)) c.args.lid.0 c.args.starts.now c.requires.starts c.args.lanes.now c.loop-start.lanes c.loop-start.start-index c.loop-start.invariant c.loop-start-test.false
