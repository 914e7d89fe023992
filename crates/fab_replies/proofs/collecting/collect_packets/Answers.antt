use Rattle.std.proofs.Common.{◌≡◌, ℕ, ◌<◌, List, length, Some, slice_get, slice_index_or, sym, ◌∙◌, subst}
use Rattle.std.proofs.lemmas.Bool.{both_ways}
use Rattle.std.proofs.lemmas.Option.{slice_get-get_or}
use Rattle.fab_model.specs.Topology.{Topology, place_of}
use Rattle.fab_tables.specs.declared.starts.Start.{Start}
use Rattle.fab_tables.specs.LaneTables.{LaneTables}
use Rattle.fab_tables.specs.Starts.{IsOfTerminal, AreStartsFor}
use Rattle.fab_tables.proofs.Faults.RouteFaults.{apart_by}
use Rattle.fab_tables.proofs.Paths.FallingRoutes.{place_below}
use Rattle.fab_certify.proofs.Collected.CollectingStarts.{routes_apart}
use Rattle.fab_replies.proofs.Sending.{start_low, no_packets, packets_more, packets_same, has_packets}
use Rattle.fab_replies.proofs.collecting.collect_packets.Goals as goal
use Rattle.fab_replies.proofs.collecting.collect_packets.Goals.{then-are_connected+in_ok-collect_from, else-are_connected}

abbrev start_at : List Start → ℕ → Start
start_at starts k = slice_index_or starts k (record { switch = record { 0 = 0 }; port = 0 })

start_terminal : (t : Topology) (l : LaneTables) (starts : List Start) (k : ℕ) → AreStartsFor t l starts → k < length starts → IsOfTerminal t (start_at starts k)
start_terminal t l starts k are low = are.terminals k (record { switch = record { 0 = 0 }; port = 0 }) low

pub are_connected-requires-clause-first : goal.are_connected-requires-clause-first
are_connected-requires-clause-first c =
    start_low c.args.reading.now.fabric c.fabric.ensures.kept.fabric (start_at c.args.starts.now c.loop-start.start-index) (start_terminal c.args.reading.now.fabric c.args.reading.now.lanes c.args.starts.now c.loop-start.start-index c.requires.starts c.loop-start-test.true)

pub are_connected-requires-clause-second : goal.are_connected-requires-clause-second
are_connected-requires-clause-second c =
    let home : place_of c.args.reading.now.fabric c.args.lid.0 ≡ Some c.in-Some.place = subst (λ (x : Topology). place_of x c.args.lid.0 ≡ Some c.in-Some.place) c.fabric.ensures.fabric (sym c.place_of.ensures ∙ c.in-Some.is) in
    place_below c.args.reading.now.fabric c.fabric.ensures.kept.fabric.rows c.args.lid.0 c.in-Some.place home

pub collect_from-requires-clause-terminal : goal.collect_from-requires-clause-terminal
collect_from-requires-clause-terminal c = start_terminal c.args.reading.now.fabric c.args.reading.now.lanes c.args.starts.now c.loop-start.start-index c.requires.starts c.loop-start-test.true

pub collect_from-requires-clause-switch : goal.collect_from-requires-clause-switch
collect_from-requires-clause-switch c =
    start_low c.args.reading.now.fabric c.fabric.ensures.kept.fabric (start_at c.args.starts.now c.loop-start.start-index) (start_terminal c.args.reading.now.fabric c.args.reading.now.lanes c.args.starts.now c.loop-start.start-index c.requires.starts c.loop-start-test.true)

pub collect_from-requires-clause-connected : goal.collect_from-requires-clause-connected
collect_from-requires-clause-connected c =
    let home : place_of c.args.reading.now.fabric c.args.lid.0 ≡ Some c.in-Some.place = subst (λ (x : Topology). place_of x c.args.lid.0 ≡ Some c.in-Some.place) c.fabric.ensures.fabric (sym c.place_of.ensures ∙ c.in-Some.is) in
    (c.in-Some.place, home, c.are_connected.ensures.0 c.if-are_connected.true)

pub loop-start-init : goal.loop-start-init
loop-start-init c = (c.requires.marked, no_packets c.args.reading.now.fabric c.args.reading.now.entries c.args.reading.now.lanes c.args.lid.0 c.args.starts.now c.args.dependencies.now c.requires.from_both)

pub loop-start-preserved : goal.loop-start-preserved
loop-start-preserved c =
    let lid = c.args.lid.0 in
    let starts = c.args.starts.now in
    let k = c.loop-start.start-index in
    let start = start_at starts k in
    let at : slice_get starts k ≡ Some start = slice_get-get_or starts k (record { switch = record { 0 = 0 }; port = 0 }) c.loop-start-test.true in
    let home : place_of c.args.reading.now.fabric c.args.lid.0 ≡ Some c.in-Some.place = subst (λ (x : Topology). place_of x c.args.lid.0 ≡ Some c.in-Some.place) c.fabric.ensures.fabric (sym c.place_of.ensures ∙ c.in-Some.is) in
    elim c.if-are_connected.branch [
      | then-are_connected+in_ok-collect_from w ↦
          (let told = w.in_ok-collect_from.ensures in
          rw (w.dependencies-is, w.marks-is) (
            told.marked,
            packets_more c.args.reading.now.fabric c.args.reading.now.entries c.args.reading.now.lanes lid starts k start at c.args.dependencies.now c.loop-start.dependencies c.loop-start.invariant.1 w.collect_from.new.dependencies told.from_both told.grows told.has,
          ))
      | else-are_connected w ↦
          rw (w.dependencies-is, w.marks-is) (
            c.loop-start.invariant.0,
            packets_same c.args.reading.now.fabric c.args.reading.now.entries c.args.reading.now.lanes lid starts k start at c.args.dependencies.now c.loop-start.dependencies c.loop-start.invariant.1
                (routes_apart c.args.reading.now.fabric c.args.reading.now.entries c.args.reading.now.lanes lid start c.loop-start.dependencies (apart_by c.args.reading.now.fabric lid c.in-Some.place start.switch.0 home (λ joined. both_ways c.are_connected.result w.if-are_connected.false (c.are_connected.ensures.1 joined)))),
          )
    ]

pub returns-clause-has : goal.returns-clause-has
returns-clause-has c =
    has_packets c.args.reading.now.fabric c.args.reading.now.entries c.args.reading.now.lanes c.args.lid.0 c.args.starts.now c.requires.starts c.args.dependencies.now c.loop-start.dependencies c.loop-start.start-index c.loop-start.invariant.1 c.loop-start-test.false
