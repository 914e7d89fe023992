use Rattle.std.proofs.Common.{◌≡◌, ◌+◌, length, Some, sym, ◌∙◌, ap, subst, arith}
use Rattle.std.proofs.lemmas.Bool.{both_ways}
use Rattle.fab_model.specs.Topology.{Topology, place_of}
use Rattle.fab_model.specs.Connected.{AreConnected}
use Rattle.fab_tables.specs.Reaching.{AreDelivered}
use Rattle.fab_tables.proofs.Paths.FallingRoutes.{place_below}
use Rattle.fab_tables.proofs.Paths.Walked.{still_delivered, delivered_if_marked}
use Rattle.fab_tables.proofs.Faults.RouteFaults.{apart_by, none_apart, none_delivered, one_switch_clear, none_for_lid, first_for_lid}
use Rattle.fab_tables.proofs.reaching.unreached_for.Goals as goal
use Rattle.fab_tables.proofs.reaching.unreached_for.Goals.{then-are_connected+then-is_none+in-Delivered, else-are_connected, else-are_connected-via-then-are_connected+else-is_none, else-are_connected-via-else-are_connected}

pub are_connected-requires-clause-second : goal.are_connected-requires-clause-second
are_connected-requires-clause-second c =
    let at : place_of c.args.fabric.now c.args.lid.0 ≡ Some c.in_ok-home.field-0 = sym c.place_of.ensures ∙ c.in_ok-home.was in
    omega (arith, ap (λ (t : Topology). length t.switches) c.requires.components, place_below c.args.fabric.now c.requires.toward.fabric.rows c.args.lid.0 c.in_ok-home.field-0 at)

pub returns-in_default : goal.returns-in_default
returns-in_default c =
    let at : place_of c.args.fabric.now c.args.lid.0 ≡ Some c.in_ok-home.field-0 = sym c.place_of.ensures ∙ c.in_ok-home.was in
    let joined : AreConnected c.args.fabric.now c.loop-s.s c.in_ok-home.field-0.switch.0 = subst (λ t. AreConnected t c.loop-s.s c.in_ok-home.field-0.switch.0) c.requires.components (c.are_connected.ensures.0 c.if-are_connected.true) in
    first_for_lid c.args.fabric.now c.args.tables.now c.args.lid (record { 0 = c.loop-s.s }) c.end_of_route.result (c.in_ok-home.field-0, at, joined) (sym c.end_of_route.ensures.end) c.in_default.not-Delivered c.loop-s.invariant.1

pub loop-s-preserved : goal.loop-s-preserved
loop-s-preserved c =
    let t = c.args.fabric.now in
    let e = c.args.tables.now in
    let lid = c.args.lid.0 in
    let s = c.loop-s.s in
    let before = c.loop-s.invariant in
    let home : place_of t lid ≡ Some c.in_ok-home.field-0 = sym c.place_of.ensures ∙ c.in_ok-home.was in
    elim c.if-are_connected.branch [
      | then-are_connected+then-is_none+in-Delivered w ↦ (
        subst (λ marks. AreDelivered t e lid (s + 1) marks) (sym w.delivered-is) (w.end_of_route.ensures.marks w.in-Delivered.is),
        one_switch_clear t e lid s before.1 (none_delivered t e lid s (sym w.end_of_route.ensures.end ∙ w.in-Delivered.is)),
      )
      | else-are_connected w ↦ (
        subst (λ marks. AreDelivered t e lid (s + 1) marks) (sym w.delivered-is) (still_delivered t e lid s c.loop-s.delivered before.0),
        one_switch_clear t e lid s before.1 (elim w.else-are_connected.branch [
          | else-are_connected-via-then-are_connected+else-is_none v ↦ none_delivered t e lid s (delivered_if_marked t e lid s s c.loop-s.delivered v.is_none.result before.0 v.is_none.ensures v.if-is_none.false)
          | else-are_connected-via-else-are_connected v ↦
              none_apart t e lid s (apart_by t lid c.in_ok-home.field-0 s home
              (λ joined. both_ways c.are_connected.result v.if-are_connected.false (c.are_connected.ensures.1 (subst (λ x. AreConnected x s c.in_ok-home.field-0.switch.0) (sym c.requires.components) joined))))
        ]),
      )
    ]

pub returns : goal.returns
returns c = none_for_lid c.args.fabric.now c.args.tables.now c.args.lid.0 c.requires.toward (λ s low. c.loop-s.invariant.1 s (omega (arith, c.switches-s-end.ensures.count)))
