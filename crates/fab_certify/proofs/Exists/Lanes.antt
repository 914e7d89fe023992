-- A plan without lanes has lanes with which it is read.
use Rattle.std.proofs.Common.{◌≡◌, ℕ, zero, suc, ◌+◌, ◌<◌, ◌≤◌, inl, inr, List, [], ◌∷◌, length, refl, sym, subst, arith, Contains, Some}
use Rattle.std.proofs.lemmas.List.Elements.{All-contains}
use Rattle.fab_graph.proofs.Decided.{Decided}
use Rattle.fab_graph.proofs.Members.{first, later, first_or_later}
use Rattle.fab_model.specs.declared.rows.TerminalRow.{TerminalRow}
use Rattle.fab_model.specs.Topology.{Topology, lids_of}
use Rattle.fab_model.specs.Connected.{IsConnectedTo}
use Rattle.fab_model.specs.WellFormed.{IsFabric}
use Rattle.fab_tables.specs.LaneTables.{LaneTables, level, with_level, with_lane, no_lanes}
use Rattle.fab_tables.specs.Fit.{IsSource}
use Rattle.fab_tables.specs.Dependencies.{IsOneLane}
use Rattle.fab_tables.proofs.Joined.ConnectedDecided.{connected_to_decided}
use Rattle.fab_tables.proofs.Verdicts.PlainLaws.{source_of, terminal_of}
use Rattle.fab_tables.proofs.Verdicts.CertifiedLaws.{contains_of}
use Rattle.fab_certify.specs.EnginePlans.{AreEngineLanes}
use Rattle.fab_certify.specs.Mapping.{IsMapping}
use Rattle.fab_certify.specs.OneLane.{IsLeveling, KeepsLevels, HasLevelsFor}
use Rattle.fab_certify.proofs.Engines.Mapping.{mapping_begins, one_more_level, one_more_switch, all_mapped}
use Rattle.fab_certify.proofs.Engines.OneLane.{leveling_begins, one_more_leveled, levels_kept, level_here, is_one_lane}

module _ (t : Topology) (fabric : IsFabric t) where
  -- the engines' maps for one lane
  mapped : (switch : ℕ) → switch ≤ length t.switches → (l : LaneTables) × IsMapping t 1 l switch 0
  mapped zero low = (no_lanes 1 (length t.switches) (length t.channels) (lids_of t), mapping_begins t fabric 1 (omega arith, omega arith))
  mapped (suc switch) low =
      let before : (l : LaneTables) × IsMapping t 1 l switch 0 = mapped switch (omega (arith, low)) in
      let next : suc switch ≡ switch + 1 = omega arith in
      let new : LaneTables = with_lane before.0 switch 0 0 in
      let set : IsMapping t 1 new switch 1 = one_more_level t 1 before.0 switch 0 before.1 (omega (arith, low)) (omega arith) in
      (new, subst (λ s. IsMapping t 1 new s 0) (sym next) (one_more_switch t 1 new switch 1 set refl))

  engine_lanes : (l : LaneTables) × AreEngineLanes t 1 l
  engine_lanes = let all : (l : LaneTables) × IsMapping t 1 l (length t.switches) 0 = mapped (length t.switches) (omega arith) in (all.0, all_mapped t 1 all.0 (length t.switches) all.1 refl)

  -- a terminal's switch has its level for a LID
  abbrev HasLevel : LaneTables → ℕ → TerminalRow → Type 0
  HasLevel l lid p = IsConnectedTo t p.switch.0 lid → level l p.switch.0 lid ≡ Some 0

  -- more switches have levels, and those of these terminals for the LID
  record More (lid : ℕ) (rows : List TerminalRow) (old : LaneTables) : Type 0 where
    lanes : LaneTables
    leveling : IsLeveling t lanes
    keeps : KeepsLevels old lanes
    has : (p : TerminalRow) → Contains rows p → HasLevel lanes lid p

  module _ (lid : ℕ) (in_use : Contains (lids_of t) lid) where
    one_terminal : (p : TerminalRow) → Contains t.terminals p → (now : LaneTables) → IsLeveling t now → Decided (IsConnectedTo t p.switch.0 lid) →
        (new : LaneTables) × IsLeveling t new × KeepsLevels now new × HasLevel new lid p
    one_terminal p of now leveling (inr apart) = (now, leveling, (λ s n h. h), λ c. absurd (apart c))
    one_terminal p of now leveling (inl joined) =
        let low : p.switch.0 < length t.switches = All-contains (λ (row : TerminalRow). row.switch.0 < length t.switches) t.terminals p fabric.rows.terminal_switches of in
        let source : IsSource t p.switch.0 = source_of t.terminals p of.0 of.1 of.2 in (
          with_level now p.switch.0 lid (Some 0),
          one_more_leveled t now p.switch.0 lid leveling low in_use source joined,
          levels_kept t now p.switch.0 lid leveling low in_use source joined,
          λ c. level_here t now p.switch.0 lid leveling low in_use source joined,
        )

    all_terminals : (rows : List TerminalRow) → ((p : TerminalRow) → Contains rows p → Contains t.terminals p) → (old : LaneTables) → IsLeveling t old → More lid rows old
    all_terminals [] among old leveling = record { lanes = old; leveling = leveling; keeps = λ s n h. h; has = λ p none. absurd (omega (arith, none.1)) }
    all_terminals (p ∷ rows) among old leveling =
        let rest : More lid rows old = all_terminals rows (λ q has. among q (later p rows q has)) old leveling in
        let new : (new : LaneTables) × IsLeveling t new × KeepsLevels rest.lanes new × HasLevel new lid p =
        one_terminal p (among p (first p rows)) rest.lanes rest.leveling (connected_to_decided t p.switch.0 lid) in
        record {
          lanes = new.0;
          leveling = new.1;
          keeps = λ s n h. new.2 s n (rest.keeps s n h);
          has = λ q has. elim (first_or_later p rows q has) [
            | inl same ↦ subst (λ r. HasLevel new.0 lid r) same new.3
            | inr there ↦ (λ c. new.2 q.switch.0 lid (rest.has q there c))
          ];
        }

    one_lid : (old : LaneTables) → IsLeveling t old → (new : LaneTables) × IsLeveling t new × KeepsLevels old new × HasLevelsFor t new lid
    one_lid old leveling =
        let more : More lid t.terminals old = all_terminals t.terminals (λ p has. has) old leveling in
        (more.lanes, more.leveling, more.keeps, λ s source joined. of_source more s joined (terminal_of t.terminals s source))
      where
        of_source : (more : More lid t.terminals old) (s : ℕ) → IsConnectedTo t s lid → (p : TerminalRow) × Contains t.terminals p × (p.switch.0 ≡ s) → level more.lanes s lid ≡ Some 0
        of_source more s joined q = subst (λ n. level more.lanes n lid ≡ Some 0) q.2 (more.has q.0 q.1 (subst (λ n. IsConnectedTo t n lid) (sym q.2) joined))

  all_lids : (lids : List ℕ) → ((lid : ℕ) → Contains lids lid → Contains (lids_of t) lid) → (old : LaneTables) → IsLeveling t old →
      (new : LaneTables) × IsLeveling t new × ((lid : ℕ) → Contains lids lid → HasLevelsFor t new lid)
  all_lids [] among old leveling = (old, leveling, λ lid none. absurd (omega (arith, none.1)))
  all_lids (lid ∷ lids) among old leveling =
      let rest : (new : LaneTables) × IsLeveling t new × ((lid : ℕ) → Contains lids lid → HasLevelsFor t new lid) = all_lids lids (λ n has. among n (later lid lids n has)) old leveling in
      let new : (new : LaneTables) × IsLeveling t new × KeepsLevels rest.0 new × HasLevelsFor t new lid = one_lid lid (among lid (first lid lids)) rest.0 rest.1 in (
        new.0,
        new.1,
        λ n has. elim (first_or_later lid lids n has) [
          | inl same ↦ subst (λ m. HasLevelsFor t new.0 m) same new.3
          | inr there ↦ (λ s source joined. new.2 s n (rest.2 n there s source joined))
        ],
      )

  pub one_lane_exists : (l : LaneTables) × IsOneLane t l
  one_lane_exists =
      let begins : (l : LaneTables) × AreEngineLanes t 1 l = engine_lanes in
      let all : (new : LaneTables) × IsLeveling t new × ((lid : ℕ) → Contains (lids_of t) lid → HasLevelsFor t new lid) = all_lids (lids_of t) (λ lid has. has) begins.0 (leveling_begins t begins.0 begins.1) in
      (all.0, is_one_lane t all.0 all.1 (λ k lid low at. all.2 lid (contains_of (lids_of t) k lid at)))
