use Rattle.std.proofs.Common.{◌≡◌, ℕ, List, length, Some, slice_get, sym, ◌∙◌, ap, subst, arith}
use Rattle.std.proofs.lemmas.Bool.{both_ways}
use Rattle.std.proofs.lemmas.Option.{slice_get-get_or}
use Rattle.fab_model.specs.Topology.{Topology, place_of}
use Rattle.fab_model.specs.Connected.{AreConnected}
use Rattle.fab_tables.specs.declared.verdict.Verdict.{Verdict}
use Rattle.fab_tables.specs.LaneFaults.{IsSoughtAt}
use Rattle.fab_tables.specs.Judged.{AreJudged}
use Rattle.fab_tables.proofs.Paths.FallingRoutes.{place_below}
use Rattle.fab_tables.proofs.Faults.RouteFaults.{apart_by}
use Rattle.fab_tables.proofs.Faults.StartFaults.{IsLaneChoice, IsClear, none_found, none_is, start_at, start_low, clear_apart, one_clear_more, found_clear, none_from_starts, found_first}
use Rattle.fab_tables.proofs.Faults.SoughtFaults.{sought_faults}
use Rattle.fab_tables.proofs.Faults.Judged.{cleared}
use Rattle.fab_tables.proofs.lane_faults.fault_for.Goals as goal
use Rattle.fab_tables.proofs.lane_faults.fault_for.Goals.{then-are_connected+else-is_some, else-are_connected}

pub loop-start-init : goal.loop-start-init
loop-start-init c = (
  cleared c.args.faults c.args.fabric.now c.args.tables.now c.args.lanes.now c.args.lid.0 c.args.marks.now c.clear.new.self c.clear.ensures c.requires.room,
  λ k start low at. absurd (omega arith),
)

pub are_connected-requires-clause-first : goal.are_connected-requires-clause-first
are_connected-requires-clause-first c = omega (
  arith,
  ap (λ (t : Topology). length t.switches) c.requires.components,
  start_low c.args.fabric.now c.args.starts.now c.loop-start.start-index c.requires.toward.fabric c.requires.starts.terminals c.loop-start-test.true,
)

pub are_connected-requires-clause-second : goal.are_connected-requires-clause-second
are_connected-requires-clause-second c =
    let at : place_of c.args.fabric.now c.args.lid.0 ≡ Some c.in_ok-home.field-0 = sym c.place_of.ensures ∙ c.in_ok-home.was in
    omega (arith, ap (λ (t : Topology). length t.switches) c.requires.components, place_below c.args.fabric.now c.requires.toward.fabric.rows c.args.lid.0 c.in_ok-home.field-0 at)

pub returns-then-is_some-clause-fault : goal.returns-then-is_some-clause-fault
returns-then-is_some-clause-fault c =
    let t = c.args.fabric.now in
    let start = start_at c.args.starts.now c.loop-start.start-index in
    let home : place_of t c.args.lid.0 ≡ Some c.in_ok-home.field-0 = sym c.place_of.ensures ∙ c.in_ok-home.was in
    let joined : AreConnected t start.switch.0 c.in_ok-home.field-0.switch.0 = subst (λ x. AreConnected x start.switch.0 c.in_ok-home.field-0.switch.0) c.requires.components (c.are_connected.ensures.0 c.if-are_connected.true) in
    found_first t c.args.tables.now c.args.lanes.now _ (sought_faults t c.args.tables.now c.args.lanes.now c.args.faults) c.args.lid c.args.starts.now c.requires.starts c.loop-start.start-index start
    (slice_get-get_or c.args.starts.now c.loop-start.start-index _ c.loop-start-test.true) c.loop-start.invariant.1 (c.in_ok-home.field-0, home, joined) c.fault_from-fault.result (sym c.is_some.ensures ∙ c.if-is_some.true)
    c.fault_from-fault.ensures.no_level c.fault_from-fault.ensures.hops

pub loop-start-preserved : goal.loop-start-preserved
loop-start-preserved c =
    let t = c.args.fabric.now in
    let e = c.args.tables.now in
    let l = c.args.lanes.now in
    let P : List ℕ → Verdict → Type 0 = IsSoughtAt c.args.faults t e l in
    let choice : IsLaneChoice t e l P = sought_faults t e l c.args.faults in
    let lid = c.args.lid.0 in
    let starts = c.args.starts.now in
    let k = c.loop-start.start-index in
    let start = start_at starts k in
    let before = c.loop-start.invariant in
    let at : slice_get starts k ≡ Some start = slice_get-get_or starts k (record { switch = record { 0 = 0 }; port = 0 }) c.loop-start-test.true in
    let home : place_of t lid ≡ Some c.in_ok-home.field-0 = sym c.place_of.ensures ∙ c.in_ok-home.was in
    elim c.if-are_connected.branch [
      | then-are_connected+else-is_some w ↦
          (let found = w.fault_from-fault.result in
          let clear : IsClear t l P lid start =
          found_clear t e l P choice lid starts k start at found (none_found found (sym w.is_some.ensures ∙ w.if-is_some.false)) (λ x. none_is found _ (w.fault_from-fault.ensures.no_level x)) w.fault_from-fault.ensures.hops in
          (subst (λ marks. AreJudged c.args.faults t e l lid marks) (sym w.marks-is) (w.fault_from-fault.ensures.judged (none_found found (sym w.is_some.ensures ∙ w.if-is_some.false))), one_clear_more t e l P choice lid starts k start at before.1 clear))
      | else-are_connected w ↦ (
        subst (λ marks. AreJudged c.args.faults t e l lid marks) (sym w.marks-is) before.0,
        one_clear_more t e l P choice lid starts k start at before.1
            (clear_apart t e l P choice lid start (apart_by t lid c.in_ok-home.field-0 start.switch.0 home (λ joined.
            both_ways c.are_connected.result w.if-are_connected.false
            (c.are_connected.ensures.1 (subst (λ x. AreConnected x start.switch.0 c.in_ok-home.field-0.switch.0) (sym c.requires.components) joined))))),
      )
    ]

pub returns-clause-fault : goal.returns-clause-fault
returns-clause-fault c =
    none_from_starts c.args.fabric.now c.args.tables.now c.args.lanes.now _ (sought_faults c.args.fabric.now c.args.tables.now c.args.lanes.now c.args.faults) c.args.lid.0 c.args.starts.now c.requires.starts
    (λ k start low at. c.loop-start.invariant.1 k start (omega arith) at)
