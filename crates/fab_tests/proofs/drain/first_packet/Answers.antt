-- The first terminal has its row, its switch is connected to the LID, and a plan without lanes has a hop for each channel of a route.
use Rattle.std.proofs.Common.{◌≡◌, ℕ, ◌<◌, List, length, map, true, Option, Some, None, refl, sym, ◌∙◌, ap, subst, arith}
use Rattle.std.proofs.lemmas.Bool.{false≢true, true≢false}
use Rattle.std.proofs.lemmas.List.{length-map}
use Rattle.std.proofs.lemmas.List.Elements.{All-contains}
use Rattle.std.specs.Prelude.{slice_get, is_some, false, not}
use Rattle.fab_model.specs.declared.rows.ChannelId.{ChannelId}
use Rattle.fab_model.specs.declared.rows.TerminalRow.{TerminalRow}
use Rattle.fab_model.specs.Connected.{AreConnected}
use Rattle.fab_model.specs.Topology.{Topology, place_of}
use Rattle.fab_model.specs.WellFormed.{IsFabric}
use Rattle.fab_model.proofs.Channels.{contains_read}
use Rattle.fab_tables.specs.declared.plan.Plan.{Plan}
use Rattle.fab_tables.specs.declared.verdict.VirtualChannel.{VirtualChannel}
use Rattle.fab_tables.specs.Ahead.{Ahead, StepsTo}
use Rattle.fab_tables.specs.LaneTables.{LaneTables}
use Rattle.fab_tables.specs.Reading.{channels_read}
use Rattle.fab_tables.specs.Route.{route}
use Rattle.fab_tables.specs.VirtualChannels.{virtual_channel}
use Rattle.fab_tables.proofs.Paths.FallingRoutes.{place_below}
use Rattle.fab_drain.specs.Loads.{hops_of_row}
use Rattle.fab_tests.proofs.drain.first_packet.Goals as goal

terminal_low : (t : Topology) (k : ℕ) (row : TerminalRow) → IsFabric t → slice_get t.terminals k ≡ Some row → row.switch.0 < length t.switches
terminal_low t k row is at = All-contains (λ r. r.switch.0 < length t.switches) t.terminals row is.rows.terminal_switches (contains_read t.terminals k row at)

some_ahead : (old new : Ahead) (first : Option ChannelId) → StepsTo old first new → is_some first ≡ true → 0 < length old.channels
some_ahead old new None steps e = absurd (false≢true e)
some_ahead old new (Some c) steps e = omega (arith, ap (λ (cs : List ℕ). length cs) steps.0)

no_lanes : (t : Topology) (p : Plan) (row : TerminalRow) (lid : ℕ) (l : Option LaneTables) → is_some l ≡ false →
    channels_read t p l row lid ≡ map (λ c. virtual_channel c 0) (route t p.tables row.switch.0 lid).channels
no_lanes t p row lid None e = refl
no_lanes t p row lid (Some l) e = absurd (true≢false e)

has_first : (t : Topology) (p : Plan) (row : TerminalRow) (lid : ℕ) (l : Option LaneTables) → is_some l ≡ false →
    0 < length (route t p.tables row.switch.0 lid).channels → 0 < length (channels_read t p l row lid)
has_first t p row lid l e low =
    omega (arith, low, ap (λ (vs : List VirtualChannel). length vs) (no_lanes t p row lid l e), length-map (route t p.tables row.switch.0 lid).channels (λ c. virtual_channel c 0))

pub are_connected-requires-clause-second : goal.are_connected-requires-clause-second
are_connected-requires-clause-second g c =
    let at : place_of c.args.fabric.now c.nth_lid-lid.result.0 ≡ Some c.expect-place.result = sym c.place_of.ensures ∙ c.expect-place.ensures in
    omega (arith, ap (λ (t : Topology). length t.switches) c.in_ok-components.ensures, place_below c.args.fabric.now c.terminals.ensures.kept.rows c.nth_lid-lid.result.0 c.expect-place.result at)

pub follow-requires-clause-switch : goal.follow-requires-clause-switch
follow-requires-clause-switch g c = terminal_low c.args.fabric.now 0 c.terminal-row.result c.terminals.ensures.kept c.terminal-row.ensures

pub returns : goal.returns
returns g c =
    let t = c.args.fabric.now in
    let p = c.args.plan.now in
    let row = c.terminal-row.result in
    let lid = c.nth_lid-lid.result.0 in
    let place = c.expect-place.result in
    let at : place_of t lid ≡ Some place = sym c.place_of.ensures ∙ c.expect-place.ensures in
    let is_joined : c.are_connected.result ≡ true = search in
    let is_ahead : c.is_some.result ≡ true = search in
    let is_none : c.is_none.result ≡ true = search in
    let joined : AreConnected t row.switch.0 place.switch.0 = subst (λ (x : Topology). AreConnected x row.switch.0 place.switch.0) c.in_ok-components.ensures (c.are_connected.ensures.0 is_joined) in
    let ahead : 0 < length c.follow.result.channels = some_ahead c.follow.result c.next-first.new.self c.next-first.result c.next-first.ensures.steps (sym c.is_some.ensures ∙ is_ahead) in
    let low : 0 < length (route t p.tables row.switch.0 lid).channels = subst (λ (cs : List ℕ). 0 < length cs) c.follow.ensures.channels ahead in
    let first : 0 < length (channels_read t p p.lanes row lid) = has_first t p row lid p.lanes (c.is_none.ensures ∙ ap (λ b. not b) is_none) low in
    record {
      row = row;
      terminal = c.terminal-row.ensures;
      path = record { terminal = contains_read t.terminals 0 row c.terminal-row.ensures; connected = (place, at, joined) };
      position = subst (λ o. 0 < length (hops_of_row t p lid o)) (sym c.terminal-row.ensures) first;
    }
