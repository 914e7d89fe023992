-- The lanes of a plan that has none have their levels LID by LID, and start by start.
use Rattle.std.proofs.Common.{◌≡◌, ℕ, ◌+◌, ◌<◌, ◌≤◌, List, length, refl, sym, ◌∙◌, ap, subst, inl, inr, ◌⊎◌, arith, Some, None, Option, Contains, slice_get}
use Rattle.std.specs.Prelude.{◌==◌, ◌&&◌, if◌then◌else◌}
use Rattle.std.proofs.lemmas.Bool.{cases_lt, cases_eq, eq-eqb, ne_eqb, and_from, and_left, and_right, cond-true, cond-false}
use Rattle.std.proofs.lemmas.List.Elements.{All-contains}
use Rattle.std.proofs.lemmas.Option.{same_Some, slice_get_within, get_or_from_slice_get}
use Rattle.fab_model.specs.declared.rows.TerminalRow.{TerminalRow}
use Rattle.fab_model.specs.Topology.{Topology, lids_of}
use Rattle.fab_model.specs.Connected.{IsConnectedTo}
use Rattle.fab_model.specs.WellFormed.{IsFabric}
use Rattle.fab_tables.specs.Entries.{index_of, cell}
use Rattle.fab_tables.specs.LaneTables.{LaneTables, HasLanePerLevel, level, with_level, with_level_in_column}
use Rattle.fab_tables.specs.Fit.{LanesFit, IsSource}
use Rattle.fab_tables.specs.Dependencies.{IsOneLane}
use Rattle.fab_tables.proofs.Rows.LaneSets.{level_set_kept}
use Rattle.fab_tables.proofs.Rows.Cells.{one_level_changes}
use Rattle.fab_tables.proofs.Verdicts.PlainLaws.{source_of, terminal_of}
use Rattle.fab_tables.proofs.Verdicts.CertifiedLaws.{get_of}
use Rattle.fab_tables.specs.declared.starts.Start.{Start}
use Rattle.fab_tables.specs.Starts.{start_of, IsOfTerminal, AreStarts}
use Rattle.fab_tables.proofs.Joined.Lids.{connected_in_use}
use Rattle.fab_certify.specs.EnginePlans.{AreEngineLanes}
use Rattle.fab_certify.specs.OneLane.{IsLeveling, KeepsLevels, HasLevelsFor}

pub leveling_begins : (t : Topology) (l : LaneTables) → AreEngineLanes t 1 l → IsLeveling t l
leveling_begins t l lanes = record { fits = lanes.fits; count = lanes.lane_count; maps = lanes.maps; only = λ s lid. inl (lanes.no_level s lid) }

-- a level is set
module _ (t : Topology) (l : LaneTables) (s lid : ℕ) (so_far : IsLeveling t l) (low : s < length t.switches) (in_use : Contains (lids_of t) lid) (source : IsSource t s) (connected : IsConnectedTo t s lid) where
  abbrev leveled : LaneTables
  leveled = with_level l s lid (Some 0)

  changed : (other other_lid : ℕ) → level leveled other other_lid ≡ (if (other == s) && (other_lid == lid) then Some 0 else level l other other_lid)
  changed other other_lid = one_level_changes l s lid other other_lid (Some 0) so_far.fits.whole (omega (arith, low, so_far.fits.switches)) (subst (λ ns. Contains ns lid) (sym so_far.fits.in_use) in_use)

  here_or_other : (other other_lid : ℕ) → (((other ≡ s) × (other_lid ≡ lid)) × (level leveled other other_lid ≡ Some 0)) ⊎ (level leveled other other_lid ≡ level l other other_lid)
  here_or_other other other_lid = elim (cases_eq other s) [
    | inr ne ↦ inr (changed other other_lid ∙ cond-false ((other == s) && (other_lid == lid)) (Some 0) (level l other other_lid) (and_left (other == s) (other_lid == lid) (ne_eqb other s ne)))
    | inl same ↦ elim (cases_eq other_lid lid) [
      | inr ne ↦ inr (changed other other_lid ∙ cond-false ((other == s) && (other_lid == lid)) (Some 0) (level l other other_lid) (and_right (other == s) (other_lid == lid) (ne_eqb other_lid lid ne)))
      | inl at ↦
          inl ((same, at), changed other other_lid ∙ cond-true ((other == s) && (other_lid == lid)) (Some 0) (level l other other_lid) (and_from (other == s) (other_lid == lid) (eq-eqb other s same) (eq-eqb other_lid lid at)))
    ]
  ]

  pub level_here : level leveled s lid ≡ Some 0
  level_here = changed s lid ∙ cond-true ((s == s) && (lid == lid)) (Some 0) (level l s lid) (and_from (s == s) (lid == lid) (eq-eqb s s refl) (eq-eqb lid lid refl))

  pub levels_kept : KeepsLevels l leveled
  levels_kept other other_lid was = elim (here_or_other other other_lid) [ inl here ↦ here.1 | inr same ↦ same ∙ was ]

  in_column : (o : Option ℕ) → LanesFit t (with_level_in_column l s (Some 0) o) × ((with_level_in_column l s (Some 0) o).count ≡ 1) × HasLanePerLevel (with_level_in_column l s (Some 0) o)
  in_column None = (so_far.fits, so_far.count, so_far.maps)
  in_column (Some i) = (
    record {
      whole = level_set_kept l so_far.fits.whole (cell l.switches i s) (Some 0) (omega arith);
      switches = so_far.fits.switches;
      channels = so_far.fits.channels;
      in_use = so_far.fits.in_use;
      pairs = so_far.fits.pairs;
    },
    so_far.count,
    record { general = so_far.maps.general; no_pair = so_far.maps.no_pair },
  )

  pub one_more_leveled : IsLeveling t leveled
  one_more_leveled = record {
    fits = (in_column (index_of lid l.in_use)).0;
    count = (in_column (index_of lid l.in_use)).1;
    maps = (in_column (index_of lid l.in_use)).2;
    only = only;
  }
    where
      only : (other other_lid : ℕ) → (level leveled other other_lid ≡ None) ⊎ ((level leveled other other_lid ≡ Some 0) × IsSource t other × IsConnectedTo t other other_lid)
      only other other_lid = elim (here_or_other other other_lid) [
        | inl here ↦ inr (here.1, subst (IsSource t) (sym here.0.0) source, subst (λ x. IsConnectedTo t x other_lid) (sym here.0.0) (subst (λ n. IsConnectedTo t s n) (sym here.0.1) connected))
        | inr same ↦ elim (so_far.only other other_lid) [ inl none ↦ inl (same ∙ none) | inr some ↦ inr (same ∙ some.0, some.1, some.2) ]
      ]

-- the starts so far have their level for a LID
pub record AreLeveled (t : Topology) (lid : ℕ) (starts : List Start) (old now : LaneTables) (index : ℕ) : Type 0 where
  pub leveling : IsLeveling t now
  pub kept : KeepsLevels old now
  pub has : (k : ℕ) (start : Start) → k < index → slice_get starts k ≡ Some start → IsConnectedTo t start.switch.0 lid → level now start.switch.0 lid ≡ Some 0

pub none_leveled : (t : Topology) (lid : ℕ) (starts : List Start) (l : LaneTables) → IsLeveling t l → AreLeveled t lid starts l l 0
none_leveled t lid starts l leveling = record { leveling = leveling; kept = λ s n h. h; has = λ k start low at c. absurd (omega arith) }

module _ (t : Topology) (fabric : IsFabric t) (lid : ℕ) (in_use : Contains (lids_of t) lid) (starts : List Start) (are : AreStarts t starts) (old now : LaneTables) (index : ℕ) (start : Start) (at : slice_get starts index ≡ Some start)
    (so_far : AreLeveled t lid starts old now index) where
  of_terminal : IsOfTerminal t start
  of_terminal = All-contains (IsOfTerminal t) starts start are.terminals (index, slice_get_within starts index start at, get_or_from_slice_get starts index start start at)

  pub start_low : start.switch.0 < length t.switches
  start_low = subst (λ (x : Start). x.switch.0 < length t.switches) of_terminal.2 (All-contains (λ row. row.switch.0 < length t.switches) t.terminals of_terminal.0 fabric.rows.terminal_switches of_terminal.1)

  source : IsSource t start.switch.0
  source = subst (λ n. IsSource t n) (ap (λ (x : Start). x.switch.0) of_terminal.2) (source_of t.terminals of_terminal.0 of_terminal.1.0 of_terminal.1.1 of_terminal.1.2)

  later : (new : LaneTables) → IsLeveling t new → KeepsLevels now new → (IsConnectedTo t start.switch.0 lid → level new start.switch.0 lid ≡ Some 0) → AreLeveled t lid starts old new (index + 1)
  later new leveling keeps here = record { leveling = leveling; kept = λ s n h. keeps s n (so_far.kept s n h); has = has }
    where
      has : (k : ℕ) (other : Start) → k < index + 1 → slice_get starts k ≡ Some other → IsConnectedTo t other.switch.0 lid → level new other.switch.0 lid ≡ Some 0
      has k other low there c = elim (cases_lt k index) [
        | inl less ↦ keeps other.switch.0 lid (so_far.has k other less there c)
        | inr not ↦
            (let eq : index ≡ k = omega arith in
            let same : start ≡ other = same_Some start other (sym at ∙ ap (λ n. slice_get starts n) eq ∙ there) in
            subst (λ (x : Start). level new x.switch.0 lid ≡ Some 0) same (here (subst (λ (x : Start). IsConnectedTo t x.switch.0 lid) (sym same) c)))
      ]

  pub leveled_more : IsConnectedTo t start.switch.0 lid → AreLeveled t lid starts old (with_level now start.switch.0 lid (Some 0)) (index + 1)
  leveled_more c = later (with_level now start.switch.0 lid (Some 0)) (one_more_leveled t now start.switch.0 lid so_far.leveling start_low in_use source c) (levels_kept t now start.switch.0 lid so_far.leveling start_low in_use source c)
      (λ d. level_here t now start.switch.0 lid so_far.leveling start_low in_use source c)

  pub leveled_same : ¬ IsConnectedTo t start.switch.0 lid → AreLeveled t lid starts old now (index + 1)
  leveled_same apart = later now so_far.leveling (λ s n h. h) (λ c. absurd (apart c))

-- all sources have their level for the LID
pub all_leveled : (t : Topology) (lid : ℕ) (starts : List Start) → AreStarts t starts → (old now : LaneTables) (index : ℕ) → AreLeveled t lid starts old now index → length starts ≤ index → HasLevelsFor t now lid
all_leveled t lid starts are old now index so_far all s is_source c =
    let q : (p : TerminalRow) × Contains t.terminals p × (p.switch.0 ≡ s) = terminal_of t.terminals s is_source in
    let has : Contains starts (start_of q.0) = All-contains (λ (r : TerminalRow). Contains starts (start_of r)) t.terminals q.0 are.all q.1 in
    subst (λ n. level now n lid ≡ Some 0) q.2 (so_far.has has.0 (start_of q.0) (omega (arith, has.1, all)) (get_of starts has.0 (start_of q.0) has.1 has.2) (subst (λ n. IsConnectedTo t n lid) (sym q.2) c))

pub one_lid_leveled : (t : Topology) (index lid : ℕ) (a b : LaneTables) → slice_get (lids_of t) index ≡ Some lid → ((k other : ℕ) → k < index → slice_get (lids_of t) k ≡ Some other → HasLevelsFor t a other) → KeepsLevels a b → HasLevelsFor t b lid →
    (k other : ℕ) → k < index + 1 → slice_get (lids_of t) k ≡ Some other → HasLevelsFor t b other
one_lid_leveled t index lid a b at before keeps here k other low there = elim (cases_lt k index) [
  | inl less ↦ (λ s source c. keeps s other (before k other less there s source c))
  | inr not ↦ (let eq : index ≡ k = omega arith in subst (λ n. HasLevelsFor t b n) (same_Some lid other (sym at ∙ ap (λ n. slice_get (lids_of t) n) eq ∙ there)) here)
]

pub is_one_lane : (t : Topology) (l : LaneTables) → IsLeveling t l → ((k lid : ℕ) → k < length (lids_of t) → slice_get (lids_of t) k ≡ Some lid → HasLevelsFor t l lid) → IsOneLane t l
is_one_lane t l leveling has = record { fits = leveling.fits; count = leveling.count; maps = leveling.maps; level_0 = level_0; no_level = no_level }
  where
    level_0 : (s lid : ℕ) → IsSource t s → IsConnectedTo t s lid → level l s lid ≡ Some 0
    level_0 s lid source c = let in_use : Contains (lids_of t) lid = connected_in_use t s lid c in has in_use.0 lid in_use.1 (get_of (lids_of t) in_use.0 lid in_use.1 in_use.2) s source c

    no_level : (s lid : ℕ) → ¬ (IsSource t s × IsConnectedTo t s lid) → level l s lid ≡ None
    no_level s lid apart = elim (leveling.only s lid) [ inl none ↦ none | inr some ↦ absurd (apart (some.1, some.2)) ]
