-- Where the reply to a terminal's LID begins.
use Rattle.std.proofs.Common.{◌≡◌, ◌≢◌, ℕ, ◌<◌, length, refl, sym, ◌∙◌, ap, subst, inr, arith, Contains, Some, None, Option, option_map, position, find}
use Rattle.std.specs.Prelude.{IsSome, ◌==◌}
use Rattle.std.specs.Option.{option_or}
use Rattle.std.proofs.lemmas.Bool.{eqb-true}
use Rattle.std.proofs.lemmas.List.Elements.{All-contains}
use Rattle.std.proofs.lemmas.Option.{same_Some, none-some}
use Rattle.fab_model.specs.declared.rows.Lid.{Lid}
use Rattle.fab_model.specs.declared.rows.Place.{Place}
use Rattle.fab_model.specs.declared.rows.SwitchRow.{SwitchRow}
use Rattle.fab_model.specs.declared.rows.TerminalRow.{TerminalRow}
use Rattle.fab_model.specs.Topology.{Topology, lids_of, place_of, ports_of, switch_id}
use Rattle.fab_model.specs.Connected.{AreConnected, IsConnectedTo}
use Rattle.fab_model.specs.WellFormed.{IsFabric, IsPort}
use Rattle.fab_model.proofs.Lists.Found.{from_find}
use Rattle.fab_model.proofs.Lists.Members.{Contains_from_in}
use Rattle.fab_tables.specs.Entries.{Entries}
use Rattle.fab_tables.specs.Fit.{LanesFit}
use Rattle.fab_tables.specs.Judged.{hops_from}
use Rattle.fab_tables.specs.LaneTables.{LaneTables, level}
use Rattle.fab_tables.proofs.Faults.RouteFaults.{apart_by}
use Rattle.fab_tables.proofs.Joined.Walks.{connected_back}
use Rattle.fab_tables.proofs.Paths.FallingRoutes.{place_below}
use Rattle.fab_tables.proofs.Rows.LevelsLow.{level_low}
use Rattle.fab_certify.specs.Collected.{Collected}
use Rattle.fab_certify.specs.Numbered.{IsSound}
use Rattle.fab_replies.specs.declared.collecting.Way.{Way}
use Rattle.fab_replies.specs.Replies.{IsReply, reply_hops, hops_at}
use Rattle.fab_replies.specs.Jointly.{hops_of, IsHome}
use Rattle.fab_replies.specs.ReplyTo.{HasReplies, FindsReplyWay}
use Rattle.fab_replies.proofs.OneReplied.{one_terminal}
use Rattle.fab_replies.proofs.Sending.{one_reply, terminal_in_use}
use Rattle.fab_replies.proofs.TerminalPlaces.{place_of_terminal}

abbrev start_place : TerminalRow → Place
start_place p = record { switch = p.switch; port = p.port }

module _ (t : Topology) (fabric : IsFabric t) (lid : ℕ) where
  -- no terminal has a LID that has no place, nor one whose place is the switch itself
  pub not_unplaced : place_of t lid ≡ None → (p : TerminalRow) → Contains t.terminals p → p.lid.0 ≢ lid
  not_unplaced none p there is = none-some (start_place p) (sym none ∙ ap (λ n. place_of t n) (sym is) ∙ place_of_terminal t fabric p there)

  pub not_own : (home : Place) → place_of t lid ≡ Some home → home.port ≡ 0 → (p : TerminalRow) → Contains t.terminals p → p.lid.0 ≢ lid
  not_own home at own p there is =
      let place : start_place p ≡ home = same_Some (start_place p) home (sym (place_of_terminal t fabric p there) ∙ ap (λ n. place_of t n) is ∙ at) in
      let port : IsPort (ports_of t p.switch.0) p.port = All-contains (λ (r : TerminalRow). IsPort (ports_of t r.switch.0) r.port) t.terminals p fabric.rows.terminal_ports there in
      omega (arith, port.0, own, ap (λ (x : Place). x.port) place)

  -- all others are terminals'
  pub terminals_home : (home : Place) → place_of t lid ≡ Some home → home.port ≢ 0 → IsHome t lid home.switch.0
  terminals_home home at other = by_kind (position (λ (row : SwitchRow). row.lid.0 == lid) t.switches) (find (λ (row : TerminalRow). row.lid.0 == lid) t.terminals) at refl
    where
      by_kind : (o : Option ℕ) (q : Option TerminalRow) →
          option_or (option_map (λ number. record { switch = switch_id number; port = 0 }) o) (option_map (λ (row : TerminalRow). record { switch = row.switch; port = row.port }) q) ≡ Some home →
          find (λ (row : TerminalRow). row.lid.0 == lid) t.terminals ≡ q → IsHome t lid home.switch.0
      by_kind (Some n) q is found = absurd (other (sym (ap (λ (x : Place). x.port) (same_Some _ home is))))
      by_kind None (Some row) is found =
          let there = from_find (λ (r : TerminalRow). r.lid.0 == lid) t.terminals row found in
          (row, Contains_from_in t.terminals row there.0, eqb-true row.lid.0 lid there.1, ap (λ (x : Place). x.switch.0) (same_Some _ home is))
      by_kind None None is found = absurd (none-some home is)

  -- nothing is to be collected for a LID that is no terminal's
  pub no_terminal : (e : Entries) (l : LaneTables) (c : Collected) → ((p : TerminalRow) → Contains t.terminals p → p.lid.0 ≢ lid) → HasReplies t e l lid c
  no_terminal e l c none from p source is reply = absurd (none p reply.path.terminal is)

not_none : (o : Option ℕ) → IsSome o → o ≡ None → ⊥
not_none None a b = cc
not_none (Some n) a b = cc

module _ (t : Topology) (e : Entries) (l : LaneTables) (fabric : IsFabric t) (lid : Lid) (home from : ℕ) (is_home : IsHome t lid.0 home) where
  -- the one terminal of the LID
  at_home : (p : TerminalRow) → p.lid.0 ≡ lid.0 → Contains t.terminals p → p.switch.0 ≡ home
  at_home p is there = ap (λ (r : TerminalRow). r.switch.0) (one_terminal t fabric p is_home.0 there is_home.1 (is ∙ sym is_home.2)) ∙ is_home.3

  pub none_unplaced : place_of t from ≡ None → FindsReplyWay t e l lid.0 from None
  none_unplaced none p is path = none-some path.connected.0 (sym none ∙ path.connected.1)

  module _ (source : Place) (at : place_of t from ≡ Some source) where
    pub source_low : source.switch.0 < length t.switches
    source_low = place_below t fabric.rows from source at

    pub home_low : home < length t.switches
    home_low = subst (λ n. n < length t.switches) is_home.3 (All-contains (λ (r : TerminalRow). r.switch.0 < length t.switches) t.terminals is_home.0 fabric.rows.terminal_switches is_home.1)

    pub none_apart : ¬ AreConnected t home source.switch.0 → FindsReplyWay t e l lid.0 from None
    none_apart apart p is path = apart_by t from source home at apart (subst (λ s. IsConnectedTo t s from) (at_home p is path.terminal) path.connected)

    module _ (sound : IsSound t e l) where
      pub none_unleveled : level l home from ≡ None → FindsReplyWay t e l lid.0 from None
      none_unleveled none p is path = not_none (level l p.switch.0 from) (sound.level p from path) (ap (λ s. level l s from) (at_home p is path.terminal) ∙ none)

      module _ (lanes : LanesFit t l) (joined : AreConnected t home source.switch.0) (of_level : ℕ) (has_level : level l home from ≡ Some of_level) where
        abbrev way : Way
        way = record { start = record { switch = source.switch; port = source.port }; lid = lid; level = of_level }

        abbrev p : TerminalRow
        p = is_home.0

        reply : IsReply t p from source
        reply = record { path = record { terminal = is_home.1; connected = subst (λ s. IsConnectedTo t s from) (sym is_home.3) (source, at, joined) }; place = at }

        same_hops : reply_hops t e l p from source ≡ hops_of t e l way
        same_hops =
            ap (λ s. hops_at t e l p source (level l s from)) is_home.3
            ∙ ap (λ o. hops_at t e l p source o) has_level
            ∙ ap (λ n. hops_from t e l n source.switch.0 source.port of_level) is_home.2

        all_so : (q : TerminalRow) (other : Place) → q.lid.0 ≡ lid.0 → IsReply t q from other → reply_hops t e l q from other ≡ hops_of t e l way
        all_so q other is again =
            let one = one_reply t fabric lid.0 from q p other source is is_home.2 again reply in
            ap (λ r. reply_hops t e l r from other) one.0 ∙ ap (λ f. reply_hops t e l p from f) one.1 ∙ same_hops

        back : IsConnectedTo t source.switch.0 lid.0
        back =
            let place : place_of t lid.0 ≡ Some (start_place p) = ap (λ n. place_of t n) (sym is_home.2) ∙ place_of_terminal t fabric p is_home.1 in
            (start_place p, place, connected_back t fabric.rows p.switch.0 source.switch.0 (subst (λ s. AreConnected t s source.switch.0) (sym is_home.3) joined))

        pub reply_found : FindsReplyWay t e l lid.0 from (Some way)
        reply_found = (
          record {
            in_use = subst (λ n. Contains (lids_of t) n) is_home.2 (terminal_in_use t fabric p is_home.1);
            switch = source_low;
            connected = back;
            level = level_low l home from of_level lanes.whole has_level;
            sent = inr (p, from, source, reply, sym same_hops);
          },
          refl,
          p,
          source,
          is_home.2,
          reply,
          all_so,
        )
