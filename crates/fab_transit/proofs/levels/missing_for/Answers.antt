use Rattle.std.proofs.Common.{◌≡◌, length, Some, slice_get, sym, ◌∙◌, ap, subst, arith}
use Rattle.std.proofs.lemmas.Bool.{both_ways}
use Rattle.std.proofs.lemmas.Option.{slice_get-get_or}
use Rattle.fab_model.specs.Topology.{Topology, place_of}
use Rattle.fab_model.specs.Connected.{AreConnected}
use Rattle.fab_tables.proofs.Paths.FallingRoutes.{place_below}
use Rattle.fab_tables.proofs.Faults.RouteFaults.{apart_by}
use Rattle.fab_tables.proofs.Faults.StartFaults.{start_at, start_low}
use Rattle.fab_transit.proofs.MissingLevels.{source_at, none_unplaced, missing_first, missing_none, one_start_more, all_levels}
use Rattle.fab_transit.proofs.levels.missing_for.Goals as goal
use Rattle.fab_transit.proofs.levels.missing_for.Goals.{then-are_connected+else-is_some+in-None-1, then-are_connected+else-is_some+in-Some+in-NoLevel-1, then-are_connected+else-is_some+in-Some+in-Numbers-1, then-are_connected+else-is_some+in-Some+in-RingMixed-1, else-are_connected}

pub returns-in_err-home : goal.returns-in_err-home
returns-in_err-home c = rw c.from_residual.ensures (none_unplaced c.args.plans.now.fabric c.args.plans.now.change c.args.lid.0 (ap (λ (t : Topology). place_of t c.args.lid.0) (sym c.fabric.ensures.fabric) ∙ sym c.place_of.ensures ∙ c.in_err-home.was))

pub are_connected-requires-clause-first : goal.are_connected-requires-clause-first
are_connected-requires-clause-first c = omega (
  arith,
  ap (λ (t : Topology). length t.switches) c.requires.components,
  start_low c.args.plans.now.fabric c.args.starts.now c.loop-start.start-index c.fabric.ensures.kept.fabric c.requires.starts.terminals c.loop-start-test.true,
)

pub are_connected-requires-clause-second : goal.are_connected-requires-clause-second
are_connected-requires-clause-second c =
    let at : place_of c.args.plans.now.fabric c.args.lid.0 ≡ Some c.in_ok-home.field-0 = ap (λ (t : Topology). place_of t c.args.lid.0) (sym c.fabric.ensures.fabric) ∙ sym c.place_of.ensures ∙ c.in_ok-home.was in
    omega (arith, ap (λ (t : Topology). length t.switches) c.requires.components, place_below c.args.plans.now.fabric c.fabric.ensures.kept.fabric.rows c.args.lid.0 c.in_ok-home.field-0 at)

pub missing_at-missing-requires-clause-source : goal.missing_at-missing-requires-clause-source
missing_at-missing-requires-clause-source c = source_at c.args.plans.now.fabric c.args.plans.now.change c.args.starts.now c.loop-start.start-index c.requires.starts c.loop-start-test.true

pub missing_at-missing-requires-clause-low : goal.missing_at-missing-requires-clause-low
missing_at-missing-requires-clause-low c = start_low c.args.plans.now.fabric c.args.starts.now c.loop-start.start-index c.fabric.ensures.kept.fabric c.requires.starts.terminals c.loop-start-test.true

pub missing_at-missing-requires-clause-connected : goal.missing_at-missing-requires-clause-connected
missing_at-missing-requires-clause-connected c =
    let t = c.args.plans.now.fabric in
    let start = start_at c.args.starts.now c.loop-start.start-index in (
      c.in_ok-home.field-0,
      ap (λ (t : Topology). place_of t c.args.lid.0) (sym c.fabric.ensures.fabric) ∙ sym c.place_of.ensures ∙ c.in_ok-home.was,
      subst (λ x. AreConnected x start.switch.0 c.in_ok-home.field-0.switch.0) c.requires.components (c.are_connected.ensures.0 c.if-are_connected.true),
    )

pub returns-then-is_some : goal.returns-then-is_some
returns-then-is_some c =
    let t = c.args.plans.now.fabric in
    let m = c.args.plans.now.change in
    let k = c.loop-start.start-index in
    let start = start_at c.args.starts.now k in
    let at : slice_get c.args.starts.now k ≡ Some start = slice_get-get_or c.args.starts.now k (record { switch = record { 0 = 0 }; port = 0 }) c.loop-start-test.true in
    missing_first t m c.args.lid c.args.starts.now c.requires.starts k start at c.loop-start.invariant c.missing_at-missing.result (sym c.is_some.ensures ∙ c.if-is_some.true) c.missing_at-missing.ensures

pub loop-start-preserved : goal.loop-start-preserved
loop-start-preserved c =
    let t = c.args.plans.now.fabric in
    let m = c.args.plans.now.change in
    let lid = c.args.lid.0 in
    let starts = c.args.starts.now in
    let k = c.loop-start.start-index in
    let start = start_at starts k in
    let at : slice_get starts k ≡ Some start = slice_get-get_or starts k (record { switch = record { 0 = 0 }; port = 0 }) c.loop-start-test.true in
    let home : place_of t lid ≡ Some c.in_ok-home.field-0 = ap (λ (t : Topology). place_of t c.args.lid.0) (sym c.fabric.ensures.fabric) ∙ sym c.place_of.ensures ∙ c.in_ok-home.was in
    elim c.if-are_connected.branch [
      | then-are_connected+else-is_some+in-None-1 w ↦
          one_start_more t m lid starts k start at c.loop-start.invariant (λ connected. missing_none t m c.args.lid start.switch w.missing_at-missing.result (sym w.is_some.ensures ∙ w.if-is_some.false) w.missing_at-missing.ensures)
      | then-are_connected+else-is_some+in-Some+in-NoLevel-1 w ↦
          one_start_more t m lid starts k start at c.loop-start.invariant (λ connected. missing_none t m c.args.lid start.switch w.missing_at-missing.result (sym w.is_some.ensures ∙ w.if-is_some.false) w.missing_at-missing.ensures)
      | then-are_connected+else-is_some+in-Some+in-Numbers-1 w ↦
          one_start_more t m lid starts k start at c.loop-start.invariant (λ connected. missing_none t m c.args.lid start.switch w.missing_at-missing.result (sym w.is_some.ensures ∙ w.if-is_some.false) w.missing_at-missing.ensures)
      | then-are_connected+else-is_some+in-Some+in-RingMixed-1 w ↦
          one_start_more t m lid starts k start at c.loop-start.invariant (λ connected. missing_none t m c.args.lid start.switch w.missing_at-missing.result (sym w.is_some.ensures ∙ w.if-is_some.false) w.missing_at-missing.ensures)
      | else-are_connected w ↦
          one_start_more t m lid starts k start at c.loop-start.invariant (λ connected. absurd (apart_by t lid c.in_ok-home.field-0 start.switch.0 home (λ joined.
          both_ways c.are_connected.result w.if-are_connected.false
          (c.are_connected.ensures.1 (subst (λ x. AreConnected x start.switch.0 c.in_ok-home.field-0.switch.0) (sym c.requires.components) joined))) connected))
    ]

pub returns : goal.returns
returns c = all_levels c.args.plans.now.fabric c.args.plans.now.change c.args.lid.0 c.args.starts.now c.requires.starts c.loop-start.start-index (omega arith) c.loop-start.invariant
