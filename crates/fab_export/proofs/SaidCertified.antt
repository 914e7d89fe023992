-- The plan that the texts say is certified.
use Rattle.std.proofs.Common.{◌≡◌, ℕ, ◌+◌, ◌<◌, inl, inr, true, List, [], ◌∷◌, length, refl, sym, ◌∙◌, ap, subst, arith, Option, Some, None, slice_get, Contains}
use Rattle.std.specs.Prelude.{filter, option_map, ◌==◌, IsSome}
use Rattle.std.specs.List.{range_with_len}
use Rattle.std.proofs.lemmas.Bool.{eq-eqb}
use Rattle.std.proofs.lemmas.List.FromFn.{get_or-range_with_len}
use Rattle.std.proofs.lemmas.Option.{same_Some}
use Rattle.fab_model.specs.declared.rows.ChannelRow.{ChannelRow}
use Rattle.fab_model.specs.declared.rows.TerminalRow.{TerminalRow}
use Rattle.fab_model.specs.Topology.{Topology, lids_of, is_source}
use Rattle.fab_model.specs.WellFormed.{IsFabric}
use Rattle.fab_model.specs.Connected.{IsConnectedTo}
use Rattle.fab_model.proofs.Faultless.Facts.{slice_get_in}
use Rattle.fab_model.proofs.Lists.Members.{In, in_all, in_map, in_filter, from_list_any, list_any_from_in, in_from_Contains, Contains_from_in}
use Rattle.fab_tables.specs.declared.plan.Plan.{Plan}
use Rattle.fab_tables.specs.declared.verdict.VirtualChannel.{VirtualChannel}
use Rattle.fab_tables.specs.Certified.{Reaches, IsCertified, HasRisingNumbers}
use Rattle.fab_tables.specs.Dependencies.{IsPath, IsUsed, Depends}
use Rattle.fab_tables.specs.Entries.{Entries, index_of}
use Rattle.fab_tables.specs.LaneTables.{LaneTables, level, level_in_column, lane, lane_at}
use Rattle.fab_tables.specs.Fit.{LanesFit, IsSource}
use Rattle.fab_tables.specs.Route.{Route, route}
use Rattle.fab_tables.specs.VirtualChannels.{virtual_channel, hop_lane, arrival, on_channels, at_level, virtual_channels, Follow}
use Rattle.fab_tables.proofs.Rows.Cells.{index_found, index_there, level_there}
use Rattle.fab_tables.proofs.Verdicts.DeadlockLaws.{free_of_deadlock}
use Rattle.fab_tables.proofs.Paths.FallingRoutes.{connected_below}
use Rattle.fab_tables.proofs.Joined.Lids.{connected_in_use}
use Rattle.fab_export.specs.PortGuids.{port_guid, by_port, terminals_at, terminal_guids, source_guids}
use Rattle.fab_export.specs.LevelsInUse.{sources, level_to, has_level, is_level_of, is_in_use, all_levels, written_lane, written_map}
use Rattle.fab_export.specs.Policies.{policy_of, first_match}
use Rattle.fab_export.specs.SaidPlan.{first_guid, level_said, entries_said, lanes_said, plan_said}
use Rattle.fab_export.specs.Laws.{IsSaidOf, GivesLevels, IsMapOf, SaidIsCertified}
use Rattle.fab_check.specs.Free.{IsFreeOfDeadlock}
use Rattle.fab_tables.proofs.Rows.LevelsLow.{level_low}
use Rattle.fab_model.proofs.Lists.Found.{in_range}
use Rattle.fab_export.specs.Reached.{is_reached}
use Rattle.fab_export.proofs.Reaching.{reached_is_connected}
use Rattle.fab_export.proofs.Cells.{lid_cell, row_cell}
use Rattle.fab_export.proofs.FirstMatches.{policy_gives_levels}
use Rattle.fab_export.proofs.NoRows.{fit_is_good}
use Rattle.fab_export.proofs.SaidEntries.{entries_are_said, there_at}
use Rattle.fab_export.proofs.SameTables.{route_same}
use Rattle.fab_export.proofs.SourceGuids.{in_order_there}
use Rattle.fab_export.proofs.ListTests.{chosen_if, options_same}
use Rattle.fab_export.proofs.WrittenMaps.{lanes_fit, map_is_of_plan}

first_there : (xs : List ℕ) (x : ℕ) → In x xs → In (first_guid xs) xs
first_there [] x within = absurd within
first_there (y ∷ ys) x within = inl refl

-- a level of a source for a LID connected to it is in use
used_by : (t : Topology) (p : Plan) (l : LaneTables) → IsFabric t → Reaches t p.tables → (s lid v : ℕ) → IsSource t s → IsConnectedTo t s lid → level l s lid ≡ Some v → is_in_use t p.tables l v ≡ true
used_by t p l kept reaches s lid v source connected is =
    list_any_from_in (λ a. is_level_of t p.tables l a v) (sources t) s (in_filter (is_source t) (range_with_len 0 (length t.switches)) s (in_range 0 (length t.switches) s (omega arith) (omega (arith, connected_below t kept.rows s lid connected))) source)
    (list_any_from_in (has_level t p.tables l v s) (lids_of t) lid (in_from_Contains (lids_of t) lid (connected_in_use t s lid connected))
    (options_same (level_to t p.tables l s lid) (Some v) (chosen_if (is_reached t p.tables s lid) (level l s lid) None ((reached_is_connected t p.tables s lid reaches).1 connected) ∙ is)))

module _ (t : Topology) (p : Plan) (l : LaneTables) (kept : IsFabric t) (fits : LanesFit t l) (gives : GivesLevels t p.tables l) (maps : IsMapOf t p.tables l) (said : IsSaidOf t p.tables (entries_said t p.tables))
    (reaches : Reaches t p.tables) (rising : HasRisingNumbers t p.tables l) where
  abbrev e : Entries
  e = p.tables

  abbrev f : Entries
  f = entries_said t p.tables

  abbrev k : LaneTables
  k = lanes_said t p.tables l

  -- routes to connected LIDs stay
  one_route : (s lid : ℕ) → IsConnectedTo t s lid → route t (entries_said t p.tables) s lid ≡ route t p.tables s lid
  one_route s lid connected = route_same t p.tables (entries_said t p.tables) lid kept.rows (λ x c. said.there x lid c) (length t.switches) s connected

  reaches_still : Reaches t (entries_said t p.tables)
  reaches_still s lid connected = ap (λ (r : Route). r.end) (one_route s lid connected) ∙ reaches s lid connected

  -- the first terminal's GUID is one of the source's
  first_of_source : (s : ℕ) → IsSource t s → In (first_guid (terminal_guids t s)) (source_guids t s)
  first_of_source s source =
      let found = from_list_any (λ (row : TerminalRow). row.switch.0 == s) t.terminals source in
      let row : In found.0 (terminals_at t s)
      = in_order_there by_port (filter (λ (r : TerminalRow). r.switch.0 == s) t.terminals) found.0 (in_filter (λ (r : TerminalRow). r.switch.0 == s) t.terminals found.0 found.1 found.2) in
      inr (first_there (terminal_guids t s) found.0.port_guid (in_map (λ (r : TerminalRow). r.port_guid) (terminals_at t s) found.0 row))

  -- the level that is said is the plan's
  level_kept : (s lid : ℕ) → IsSource t s → IsConnectedTo t s lid → level_said t (policy_of t p.tables l) s lid ≡ level l s lid
  level_kept s lid source connected =
      chosen_if (is_source t s) (first_match (policy_of t p.tables l) (first_guid (terminal_guids t s)) (port_guid t lid)) None source
      ∙ gives.known (first_guid (terminal_guids t s)) (port_guid t lid) s lid (record {
        of_source = source;
        connected = connected;
        from_guid = Contains_from_in (source_guids t s) (first_guid (terminal_guids t s)) (first_of_source s source);
        to_guid = refl;
      })

  one_level : (s lid : ℕ) → IsSource t s → IsConnectedTo t s lid → level (lanes_said t p.tables l) s lid ≡ level l s lid
  one_level s lid source connected = go (index_of lid l.in_use) refl
    where
      go : (column : Option ℕ) → index_of lid l.in_use ≡ column → level (lanes_said t p.tables l) s lid ≡ level l s lid
      go None is = absurd (missing (subst (λ xs. Contains xs lid) (sym fits.in_use) (connected_in_use t s lid connected)) is)
        where
          missing : Contains l.in_use lid → index_of lid l.in_use ≡ None → ⊥
          missing has none = index_there lid l.in_use has.0 has.1 has.2 none
      go (Some i) is =
          let found : (i < length l.in_use) × (slice_get l.in_use i ≡ Some lid) = index_found lid l.in_use i is in
          let low : s < l.switches = omega (arith, fits.switches, connected_below t kept.rows s lid connected) in
          ap (level_in_column (lanes_said t p.tables l) s) is
          ∙ level_there (lanes_said t p.tables l) s i low
          ∙ lid_cell l.switches (level_said t (policy_of t p.tables l)) l.in_use i s 0 None low found.0
          ∙ ap (level_said t (policy_of t p.tables l) s) (there_at l.in_use lid i found.1)
          ∙ level_kept s lid source connected

  -- the lane that is said is the written one
  lane_said : (s v : ℕ) → s < length t.switches → v < 16 → lane (lanes_said t p.tables l) s v ≡ written_lane t p.tables l v
  unfolding written_map
  lane_said s v low small =
      row_cell all_levels (λ s v. written_lane t p.tables l v) 0 l.switches s v 0 15 (omega (arith, low, fits.switches)) small
      ∙ ap (written_lane t p.tables l) (get_or-range_with_len 0 16 v 0 small ∙ nothing)
    where
      nothing : 0 + v ≡ v
      nothing = omega arith

  one_lane : (s from to v : ℕ) → s < length t.switches → v < 16 → is_in_use t p.tables l v ≡ true → lane_at (lanes_said t p.tables l) s from to v ≡ lane_at l s from to v
  one_lane s from to v low small used = lane_said s v low small ∙ sym (maps.in_use s from to v low used)

  -- ---- the same hops

  one_hop : (v from : ℕ) (row : Option ChannelRow) → v < 16 → is_in_use t p.tables l v ≡ true → ((c : ChannelRow) → row ≡ Some c → c.tail.0 < length t.switches) →
      hop_lane (lanes_said t p.tables l) v from row ≡ hop_lane l v from row
  one_hop v from None small used low = refl
  one_hop v from (Some c) small used low = one_lane c.tail.0 from c.port v (low c refl) small used

  one_way : (v : ℕ) (cs : List ℕ) (from : ℕ) → v < 16 → is_in_use t p.tables l v ≡ true → on_channels t (lanes_said t p.tables l) v from cs ≡ on_channels t l v from cs
  one_way v [] from small used = refl
  one_way v (c ∷ cs) from small used =
      ap (λ lane. virtual_channel c lane ∷ on_channels t (lanes_said t p.tables l) v (arrival (slice_get t.channels c)) cs)
      (one_hop v from (slice_get t.channels c) small used (λ row is. in_all (λ (r : ChannelRow). r.tail.0 < length t.switches) t.channels kept.rows.channel_tails row (slice_get_in t.channels c row is)))
      ∙ ap (λ rest. virtual_channel c (hop_lane l v from (slice_get t.channels c)) ∷ rest) (one_way v cs (arrival (slice_get t.channels c)) small used)

  source_of : (row : TerminalRow) → Contains t.terminals row → IsSource t row.switch.0
  source_of row has = list_any_from_in (λ (r : TerminalRow). r.switch.0 == row.switch.0) t.terminals row (in_from_Contains t.terminals row has) (eq-eqb row.switch.0 row.switch.0 refl)

  same_hops : (row : TerminalRow) (lid : ℕ) → IsPath t row lid → virtual_channels t (entries_said t p.tables) (lanes_said t p.tables l) row lid ≡ virtual_channels t p.tables l row lid
  same_hops row lid path =
      ap (λ (r : Route). at_level t (lanes_said t p.tables l) row.port r.channels (level (lanes_said t p.tables l) row.switch.0 lid)) (one_route row.switch.0 lid path.connected)
      ∙ ap (λ o. at_level t (lanes_said t p.tables l) row.port (route t p.tables row.switch.0 lid).channels o) (one_level row.switch.0 lid (source_of row path.terminal) path.connected)
      ∙ go (level l row.switch.0 lid) refl
    where
      go : (o : Option ℕ) → level l row.switch.0 lid ≡ o →
          at_level t (lanes_said t p.tables l) row.port (route t p.tables row.switch.0 lid).channels o ≡ at_level t l row.port (route t p.tables row.switch.0 lid).channels o
      go None is = refl
      go (Some v) is =
          one_way v (route t p.tables row.switch.0 lid).channels row.port (level_low l row.switch.0 lid v fits.whole is)
          (used_by t p l kept reaches row.switch.0 lid v (source_of row path.terminal) path.connected is)

  still_rising : HasRisingNumbers t (entries_said t p.tables) (lanes_said t p.tables l)
  still_rising = record {
    level = λ row lid path. subst (λ o. IsSome o) (sym (one_level row.switch.0 lid (source_of row path.terminal) path.connected)) (rising.level row lid path);
    lane = λ v used. rising.lane v (used_still v used);
    number = λ v used. rising.number v (used_still v used);
    rises = λ v w depends. rising.rises v w (depends_still v w depends);
  }
    where
      used_still : (v : VirtualChannel) → IsUsed t (entries_said t p.tables) (lanes_said t p.tables l) v → IsUsed t p.tables l v
      used_still v u = (u.0, u.1, u.2, subst (λ vs. Contains vs v) (same_hops u.0 u.1 u.2) u.3)

      depends_still : (v w : VirtualChannel) → Depends t (entries_said t p.tables) (lanes_said t p.tables l) v w → Depends t p.tables l v w
      depends_still v w d = (d.0, d.1, d.2, subst (λ vs. Follow vs v w) (same_hops d.0 d.1 d.2) d.3)

pub said_is_certified : SaidIsCertified
said_is_certified t p l of_part kept fits some fit = ((lanes_said t p.tables l, is_said, reaches_said, rising_said), free)
  where
    good : Reaches t p.tables × ((k : LaneTables) → p.lanes ≡ Some k → IsCertified t p)
    good = fit_is_good t p of_part fit

    rising : HasRisingNumbers t p.tables l
    rising = let certified : IsCertified t p = good.1 l some in subst (HasRisingNumbers t p.tables) (same_Some certified.0 l (sym certified.1 ∙ some)) certified.3

    is_said : (plan_said t p).lanes ≡ Some (lanes_said t p.tables l)
    is_said = ap (option_map (lanes_said t p.tables)) some

    reaches_said : Reaches t (plan_said t p).tables
    reaches_said = reaches_still t p l kept (lanes_fit t p l fits some) (policy_gives_levels t p l of_part kept fits some fit) (map_is_of_plan t p l of_part kept fits some fit)
        (entries_are_said t p.tables kept fits.tables good.0) good.0 rising

    rising_said : HasRisingNumbers t (plan_said t p).tables (lanes_said t p.tables l)
    rising_said = still_rising t p l kept (lanes_fit t p l fits some) (policy_gives_levels t p l of_part kept fits some fit) (map_is_of_plan t p l of_part kept fits some fit)
        (entries_are_said t p.tables kept fits.tables good.0) good.0 rising

    free : IsFreeOfDeadlock t (plan_said t p)
    free k packets is = free_of_deadlock t (plan_said t p).tables k packets (subst (HasRisingNumbers t (plan_said t p).tables) (same_Some (lanes_said t p.tables l) k (sym is_said ∙ is)) rising_said)
