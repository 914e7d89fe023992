-- Lanes with the engines' maps exist, and levels for them.
use Rattle.std.proofs.Common.{◌≡◌, ℕ, zero, suc, ◌+◌, ◌<◌, ◌≤◌, inl, inr, List, [], ◌∷◌, length, refl, sym, ◌∙◌, subst, arith, Contains, Some, slice_get}
use Rattle.std.proofs.lemmas.List.Elements.{All-contains}
use Rattle.fab_graph.proofs.Decided.{Decided}
use Rattle.fab_graph.proofs.Members.{first, later, first_or_later}
use Rattle.fab_model.specs.declared.rows.TerminalRow.{TerminalRow}
use Rattle.fab_model.specs.Topology.{Topology, lids_of}
use Rattle.fab_model.specs.Connected.{IsConnectedTo}
use Rattle.fab_model.specs.WellFormed.{IsFabric}
use Rattle.fab_tables.specs.LaneTables.{LaneTables, level, with_level, with_lane, no_lanes}
use Rattle.fab_tables.specs.Fit.{IsSource}
use Rattle.fab_tables.proofs.Joined.ConnectedDecided.{connected_to_decided}
use Rattle.fab_tables.proofs.Verdicts.PlainLaws.{source_of, terminal_of}
use Rattle.fab_tables.proofs.Verdicts.CertifiedLaws.{contains_of}
use Rattle.fab_certify.specs.EnginePlans.{AreEngineLanes}
use Rattle.fab_certify.specs.Mapping.{IsMapping}
use Rattle.fab_certify.proofs.Engines.Mapping.{mapping_begins, one_more_level, one_more_switch, all_mapped}
use Rattle.fab_lash.specs.Leveling.{IsLeveling, KeepsLevels, HasLevelsFor}
use Rattle.fab_lash.proofs.LayerLevels.{leveling_begins, one_more_leveled, levels_kept, level_here, count_stays}

module _ (t : Topology) (fabric : IsFabric t) (count : ℕ) (some : 0 < count) (few : count ≤ 15) where
  -- ---- the engines' maps

  abbrev Mapped : ℕ → ℕ → Type 0
  Mapped switch below = (l : LaneTables) × IsMapping t count l switch below

  on_switch : (switch : ℕ) → switch < length t.switches → Mapped switch 0 → (below : ℕ) → below ≤ count → Mapped switch below
  on_switch switch there so_far zero low = so_far
  on_switch switch there so_far (suc below) low =
      let before : Mapped switch below = on_switch switch there so_far below (omega (arith, low)) in
      let new : LaneTables = with_lane before.0 switch below below in
      let next : below + 1 ≡ suc below = omega arith in
      (new, subst (λ n. IsMapping t count new switch n) next (one_more_level t count before.0 switch below before.1 there (omega (arith, low, few))))

  on_switches : (switch : ℕ) → switch ≤ length t.switches → Mapped switch 0
  on_switches zero low = (no_lanes count (length t.switches) (length t.channels) (lids_of t), mapping_begins t fabric count (some, few))
  on_switches (suc switch) low =
      let all : Mapped switch count = on_switch switch (omega (arith, low)) (on_switches switch (omega (arith, low))) count (omega arith) in
      let next : switch + 1 ≡ suc switch = omega arith in
      (all.0, subst (λ s. IsMapping t count all.0 s 0) next (one_more_switch t count all.0 switch count all.1 refl))

  engine_lanes : (l : LaneTables) × AreEngineLanes t count l
  engine_lanes = let all : Mapped (length t.switches) 0 = on_switches (length t.switches) (omega arith) in (all.0, all_mapped t count all.0 (length t.switches) all.1 refl)

  -- ---- the levels

  module _ (given : ℕ → ℕ → ℕ) (small : (s lid : ℕ) → IsConnectedTo t s lid → given s lid < 16) where
    -- a terminal's switch has its level for a LID
    abbrev HasLevel : LaneTables → ℕ → TerminalRow → Type 0
    HasLevel l lid p = IsConnectedTo t p.switch.0 lid → level l p.switch.0 lid ≡ Some (given p.switch.0 lid)

    -- more levels are given, so that of these terminals each has it for the LID
    record More (lid : ℕ) (rows : List TerminalRow) (old : LaneTables) : Type 0 where
      lanes : LaneTables
      leveling : IsLeveling t given lanes
      same_count : lanes.count ≡ old.count
      keeps : KeepsLevels given old lanes
      has : (p : TerminalRow) → Contains rows p → HasLevel lanes lid p

    module _ (lid : ℕ) (in_use : Contains (lids_of t) lid) where
      one_terminal : (p : TerminalRow) → Contains t.terminals p → (now : LaneTables) → IsLeveling t given now → Decided (IsConnectedTo t p.switch.0 lid) →
          (new : LaneTables) × IsLeveling t given new × (new.count ≡ now.count) × KeepsLevels given now new × HasLevel new lid p
      one_terminal p of now leveling (inr apart) = (now, leveling, refl, (λ s n h. h), λ c. absurd (apart c))
      one_terminal p of now leveling (inl joined) =
          let low : p.switch.0 < length t.switches = All-contains (λ (row : TerminalRow). row.switch.0 < length t.switches) t.terminals p fabric.rows.terminal_switches of in
          let source : IsSource t p.switch.0 = source_of t.terminals p of.0 of.1 of.2 in
          let below : given p.switch.0 lid < 16 = small p.switch.0 lid joined in (
            with_level now p.switch.0 lid (Some (given p.switch.0 lid)),
            one_more_leveled t given now p.switch.0 lid leveling below low in_use source joined,
            count_stays t given now p.switch.0 lid leveling below low in_use source joined,
            levels_kept t given now p.switch.0 lid leveling below low in_use source joined,
            λ c. level_here t given now p.switch.0 lid leveling below low in_use source joined,
          )

      all_terminals : (rows : List TerminalRow) → ((p : TerminalRow) → Contains rows p → Contains t.terminals p) → (old : LaneTables) → IsLeveling t given old → More lid rows old
      all_terminals [] among old leveling = record { lanes = old; leveling = leveling; same_count = refl; keeps = λ s n h. h; has = λ p none. absurd (omega (arith, none.1)) }
      all_terminals (p ∷ rows) among old leveling =
          let rest : More lid rows old = all_terminals rows (λ q has. among q (later p rows q has)) old leveling in
          let new : (new : LaneTables) × IsLeveling t given new × (new.count ≡ rest.lanes.count) × KeepsLevels given rest.lanes new × HasLevel new lid p =
          one_terminal p (among p (first p rows)) rest.lanes rest.leveling (connected_to_decided t p.switch.0 lid) in
          record {
            lanes = new.0;
            leveling = new.1;
            same_count = new.2 ∙ rest.same_count;
            keeps = λ s n h. new.3 s n (rest.keeps s n h);
            has = λ q has. elim (first_or_later p rows q has) [
              | inl same ↦ subst (λ r. HasLevel new.0 lid r) same new.4
              | inr there ↦ (λ c. new.3 q.switch.0 lid (rest.has q there c))
            ];
          }

      one_lid : (old : LaneTables) → IsLeveling t given old → (new : LaneTables) × IsLeveling t given new × (new.count ≡ old.count) × KeepsLevels given old new × HasLevelsFor t given new lid
      one_lid old leveling =
          let more : More lid t.terminals old = all_terminals t.terminals (λ p has. has) old leveling in
          (more.lanes, more.leveling, more.same_count, more.keeps, λ s source joined. of_source more s joined (terminal_of t.terminals s source))
        where
          of_source : (more : More lid t.terminals old) (s : ℕ) → IsConnectedTo t s lid → (p : TerminalRow) × Contains t.terminals p × (p.switch.0 ≡ s) → level more.lanes s lid ≡ Some (given s lid)
          of_source more s joined q = subst (λ n. level more.lanes n lid ≡ Some (given n lid)) q.2 (more.has q.0 q.1 (subst (λ n. IsConnectedTo t n lid) (sym q.2) joined))

    -- lanes in which these LIDs have their levels
    record Leveled (lids : List ℕ) : Type 0 where
      lanes : LaneTables
      leveling : IsLeveling t given lanes
      same_count : lanes.count ≡ count
      has : (lid : ℕ) → Contains lids lid → HasLevelsFor t given lanes lid

    all_lids : (lids : List ℕ) → ((lid : ℕ) → Contains lids lid → Contains (lids_of t) lid) → Leveled lids
    all_lids [] among =
        let begins : (l : LaneTables) × AreEngineLanes t count l = engine_lanes in
        record { lanes = begins.0; leveling = leveling_begins t given count begins.0 begins.1; same_count = begins.1.lane_count; has = λ lid none. absurd (omega (arith, none.1)) }
    all_lids (lid ∷ lids) among =
        let rest : Leveled lids = all_lids lids (λ n has. among n (later lid lids n has)) in
        let new : (new : LaneTables) × IsLeveling t given new × (new.count ≡ rest.lanes.count) × KeepsLevels given rest.lanes new × HasLevelsFor t given new lid =
        one_lid lid (among lid (first lid lids)) rest.lanes rest.leveling in
        record {
          lanes = new.0;
          leveling = new.1;
          same_count = new.2 ∙ rest.same_count;
          has = λ n has. elim (first_or_later lid lids n has) [
            | inl same ↦ subst (λ m. HasLevelsFor t given new.0 m) same new.4
            | inr there ↦ (λ s source joined. new.3 s n (rest.has n there s source joined))
          ];
        }

    pub lanes_exist : (l : LaneTables) × IsLeveling t given l × (l.count ≡ count) × ((k lid : ℕ) → k < length (lids_of t) → slice_get (lids_of t) k ≡ Some lid → HasLevelsFor t given l lid)
    lanes_exist =
        let all : Leveled (lids_of t) = all_lids (lids_of t) (λ lid has. has) in
        (all.lanes, all.leveling, all.same_count, λ k lid low at. all.has lid (contains_of (lids_of t) k lid at))
