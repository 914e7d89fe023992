use Rattle.std.proofs.Common.{◌≡◌, length, Some, slice_get, sym, ◌∙◌, ap, subst, arith}
use Rattle.std.proofs.lemmas.Bool.{both_ways}
use Rattle.std.proofs.lemmas.Option.{slice_get-get_or}
use Rattle.fab_model.specs.Connected.{AreConnected}
use Rattle.fab_tables.proofs.Faults.RouteFaults.{apart_by}
use Rattle.fab_model.specs.Topology.{Topology, place_of}
use Rattle.fab_tables.proofs.Paths.FallingRoutes.{place_below}
use Rattle.fab_tables.proofs.Faults.StartFaults.{start_at, start_low}
use Rattle.fab_transit.proofs.Beginning.{begins_still, both_sides, one_start_more, all_begun}
use Rattle.fab_transit.specs.declared.mixed.Side.TheVariants.{Old}
use Rattle.fab_transit.specs.Walking.{Advances}
use Rattle.fab_transit.proofs.Looking.{advances_none, advances_on}
use Rattle.fab_transit.proofs.walks.begin.Goals as goal
use Rattle.fab_transit.proofs.walks.begin.Goals.{then-are_connected+in_ok-begin_at+in_ok-begin_at-2, else-are_connected}

pub are_connected-requires-clause-first : goal.are_connected-requires-clause-first
are_connected-requires-clause-first c = omega (
  arith,
  ap (λ (t : Topology). length t.switches) c.requires.components,
  start_low c.args.plans.now.fabric c.args.starts.now c.loop-start.start-index c.fabric.ensures.kept.fabric c.requires.starts.terminals c.loop-start-test.true,
)

pub are_connected-requires-clause-second : goal.are_connected-requires-clause-second
are_connected-requires-clause-second c =
    let at : place_of c.args.plans.now.fabric c.args.lid.0 ≡ Some c.in-Some.place = ap (λ (t : Topology). place_of t c.args.lid.0) (sym c.fabric.ensures.fabric) ∙ sym c.place_of.ensures ∙ c.in-Some.is in
    omega (arith, ap (λ (t : Topology). length t.switches) c.requires.components, place_below c.args.plans.now.fabric c.fabric.ensures.kept.fabric.rows c.args.lid.0 c.in-Some.place at)

pub loop-start-preserved : goal.loop-start-preserved
loop-start-preserved c =
    let t = c.args.plans.now.fabric in
    let m = c.args.plans.now.change in
    let lid = c.args.lid.0 in
    let starts = c.args.starts.now in
    let k = c.loop-start.start-index in
    let start = start_at starts k in
    let old_f = c.args.found.now in
    let old_w = c.args.walks.now in
    let f = c.loop-start.found in
    let w = c.loop-start.walks in
    let on = c.loop-start.invariant in
    let at : slice_get starts k ≡ Some start = slice_get-get_or starts k (record { switch = record { 0 = 0 }; port = 0 }) c.loop-start-test.true in
    let home : place_of t lid ≡ Some c.in-Some.place = ap (λ (t : Topology). place_of t c.args.lid.0) (sym c.fabric.ensures.fabric) ∙ sym c.place_of.ensures ∙ c.in-Some.is in
    elim c.if-are_connected.branch [
      | then-are_connected+in_ok-begin_at+in_ok-begin_at-2 b ↦
          (let f1 = b.begin_at.new.found in
          let w1 = b.begin_at.new.walks in
          let f2 = b.begin_at-then-are_connected.new.found in
          let w2 = b.begin_at-then-are_connected.new.walks in
          let first = b.in_ok-begin_at.ensures in
          let second = b.in_ok-begin_at-2.ensures in
          let both : Advances f f2 w w2 = advances_on f f1 f2 w w1 w2 first.advances second.advances in
          rw (b.found-is, b.walks-is) (
            second.from_walks,
            second.found_for,
            advances_on old_f f f2 old_w w w2 on.2 both,
            one_start_more t m lid starts k start at f f2 w w2 both on.3
                (λ connected. both_sides t m lid start f2 w2 (begins_still t m lid start Old f1 f2 w1 w2 second.advances first.begun) second.begun),
          ))
      | else-are_connected b ↦
          rw (b.found-is, b.walks-is) (
            on.0,
            on.1,
            on.2,
            one_start_more t m lid starts k start at f f w w (advances_none f w) on.3 (λ connected. absurd (apart_by t lid c.in-Some.place start.switch.0 home (λ joined.
                both_ways c.are_connected.result b.if-are_connected.false
                (c.are_connected.ensures.1 (subst (λ x. AreConnected x start.switch.0 c.in-Some.place.switch.0) (sym c.requires.components) joined))) connected)),
          )
    ]

pub returns-clause-begun : goal.returns-clause-begun
returns-clause-begun c =
    all_begun c.args.plans.now.fabric c.args.plans.now.change c.args.lid.0 c.args.starts.now c.requires.starts c.loop-start.start-index (omega (arith, c.loop-start-test.false))
    c.loop-start.found c.loop-start.walks c.loop-start.invariant.3
