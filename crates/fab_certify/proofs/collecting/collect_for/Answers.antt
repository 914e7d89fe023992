use Rattle.std.proofs.Common.{◌≡◌, ℕ, ◌<◌, List, length, Some, slice_get, slice_index_or, sym, ◌∙◌, ap, subst, arith}
use Rattle.std.proofs.lemmas.Bool.{both_ways}
use Rattle.std.proofs.lemmas.List.{length-replicate}
use Rattle.std.proofs.lemmas.Option.{slice_get-get_or}
use Rattle.std.proofs.lemmas.List.Elements.{All-contains}
use Rattle.std.specs.Prelude.{false}
use Rattle.fab_model.specs.Topology.{Topology, place_of}
use Rattle.fab_model.specs.Connected.{AreConnected}
use Rattle.fab_model.specs.WellFormed.{IsFabric}
use Rattle.fab_tables.proofs.Paths.FallingRoutes.{place_below}
use Rattle.fab_tables.specs.declared.starts.Start.{Start}
use Rattle.fab_tables.specs.LaneTables.{LaneTables}
use Rattle.fab_tables.specs.Starts.{IsOfTerminal, AreStartsFor}
use Rattle.fab_tables.proofs.Faults.RouteFaults.{apart_by}
use Rattle.fab_certify.proofs.Collected.CollectingStarts.{none_collected, routes_apart, collected_more, collected_same, has_all}
use Rattle.fab_certify.proofs.Collected.MarksSet.{none_behind}
use Rattle.fab_certify.proofs.collecting.collect_for.Goals as goal
use Rattle.fab_certify.proofs.collecting.collect_for.Goals.{then-are_connected+in_ok-collect_from, else-are_connected}

abbrev start_at : List Start → ℕ → Start
start_at starts k = slice_index_or starts k (record { switch = record { 0 = 0 }; port = 0 })

start_low : (t : Topology) (l : LaneTables) (starts : List Start) (k : ℕ) → IsFabric t → AreStartsFor t l starts → k < length starts → (start_at starts k).switch.0 < length t.switches
start_low t l starts k fabric are low =
    let of_terminal : IsOfTerminal t (start_at starts k) = are.terminals k (record { switch = record { 0 = 0 }; port = 0 }) low in
    subst (λ (x : Start). x.switch.0 < length t.switches) of_terminal.2 (All-contains (λ row. row.switch.0 < length t.switches) t.terminals of_terminal.0 fabric.rows.terminal_switches of_terminal.1)

pub are_connected-requires-clause-first : goal.are_connected-requires-clause-first
are_connected-requires-clause-first c = omega (
  arith,
  ap (λ (t : Topology). length t.switches) c.requires.components,
  start_low c.args.fabric.now c.args.lanes.now c.args.starts.now c.loop-start.start-index c.requires.toward.fabric c.requires.starts c.loop-start-test.true,
)

pub are_connected-requires-clause-second : goal.are_connected-requires-clause-second
are_connected-requires-clause-second c =
    let at : place_of c.args.fabric.now c.args.lid.0 ≡ Some c.in-Some.place = sym c.place_of.ensures ∙ c.in-Some.is in
    omega (arith, ap (λ (t : Topology). length t.switches) c.requires.components, place_below c.args.fabric.now c.requires.toward.fabric.rows c.args.lid.0 c.in-Some.place at)

pub loop-start-init : goal.loop-start-init
loop-start-init c =
    let t = c.args.fabric.now in
    let l = c.args.lanes.now in
    let lid = c.args.lid.0 in
    let d = c.args.dependencies.now in
    rw c.clear.ensures (
      length-replicate (length c.args.marks.now) false ∙ c.requires.room,
      none_behind t c.args.tables.now l lid (length c.args.marks.now) d,
      none_collected t c.args.tables.now l lid c.args.starts.now d c.requires.before,
    )

pub loop-start-preserved : goal.loop-start-preserved
loop-start-preserved c =
    let t = c.args.fabric.now in
    let e = c.args.tables.now in
    let l = c.args.lanes.now in
    let lid = c.args.lid.0 in
    let starts = c.args.starts.now in
    let k = c.loop-start.start-index in
    let start = start_at starts k in
    let old = c.args.dependencies.now in
    let now_at = c.loop-start.dependencies in
    let so_far = c.loop-start.invariant.2 in
    let at : slice_get starts k ≡ Some start = slice_get-get_or starts k (record { switch = record { 0 = 0 }; port = 0 }) c.loop-start-test.true in
    let home : place_of t lid ≡ Some c.in-Some.place = sym c.place_of.ensures ∙ c.in-Some.is in
    elim c.if-are_connected.branch [
      | then-are_connected+in_ok-collect_from w ↦
          (let told = w.in_ok-collect_from.ensures in
          rw (w.dependencies-is, w.marks-is) (told.room, told.behind, collected_more t e l lid starts k start at old now_at so_far w.collect_from.new.dependencies told.from_routes told.grows told.has))
      | else-are_connected w ↦
          rw (w.dependencies-is, w.marks-is) (
            c.loop-start.invariant.0,
            c.loop-start.invariant.1,
            collected_same t e l lid starts k start at old now_at so_far (routes_apart t e l lid start now_at (apart_by t lid c.in-Some.place start.switch.0 home (λ joined.
                both_ways c.are_connected.result w.if-are_connected.false
                (c.are_connected.ensures.1 (subst (λ x. AreConnected x start.switch.0 c.in-Some.place.switch.0) (sym c.requires.components) joined))))),
          )
    ]

pub returns-clause-has : goal.returns-clause-has
returns-clause-has c =
    has_all c.args.fabric.now c.args.tables.now c.args.lanes.now c.args.lid.0 c.args.starts.now c.requires.starts c.args.dependencies.now c.loop-start.dependencies c.loop-start.start-index
    c.loop-start.invariant.2 c.loop-start-test.false
