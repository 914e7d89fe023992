use Rattle.std.proofs.Common.{◌<◌, ◌↔◌, length, ap, subst, sym, ◌∙◌}
use Rattle.std.specs.Prelude.{IsTrue}
use Rattle.fab_model.specs.Topology.{Topology}
use Rattle.fab_model.specs.Connected.{AreConnected}
use Rattle.fab_tables.proofs.Paths.FallingRoutes.{place_below}
use Rattle.fab_export.specs.Reached.{is_reached}
use Rattle.fab_export.specs.Routed.{Routed}
use Rattle.fab_export.proofs.LidPlaces.{reached_at, reached_nowhere}
use Rattle.fab_export.proofs.reached.Reached.reaches.Goals as goal

pub are_connected-requires-clause-second : goal.are_connected-requires-clause-second
are_connected-requires-clause-second c =
    subst (λ (t : Topology). c.in-Some.place.switch.0 < length t.switches) (sym c.self.invariant.1)
    (place_below c.self.inside.fabric.now c.self.invariant.0.fabric.rows c.args.lid.0 c.in-Some.place (sym c.in-Some.ensures))

pub returns-in-Some : goal.returns-in-Some
returns-in-Some c =
    let joined : IsTrue c.are_connected.result ↔ AreConnected c.self.inside.fabric.now c.args.switch.0 c.in-Some.place.switch.0 =
    subst (λ (t : Topology). IsTrue c.are_connected.result ↔ AreConnected t c.args.switch.0 c.in-Some.place.switch.0) c.self.invariant.1 c.are_connected.ensures in
    reached_at c.self.inside.fabric.now c.self.inside.tables.now c.args.switch.0 c.args.lid.0 c.self.invariant.0.reaches c.in-Some.place c.are_connected.result (sym c.in-Some.ensures) joined
    ∙ ap (λ (r : Routed). is_reached r.fabric r.entries c.args.switch.0 c.args.lid.0) c.self.view_is

pub returns-in-None : goal.returns-in-None
returns-in-None c =
    reached_nowhere c.self.inside.fabric.now c.self.inside.tables.now c.args.switch.0 c.args.lid.0 c.self.invariant.0.reaches (sym c.in-None.ensures)
    ∙ ap (λ (r : Routed). is_reached r.fabric r.entries c.args.switch.0 c.args.lid.0) c.self.view_is
