-- Lanes have the layers as levels LID by LID, and start by start.
use Rattle.std.proofs.Common.{◌≡◌, ℕ, ◌+◌, ◌<◌, ◌≤◌, List, length, refl, sym, ◌∙◌, ap, subst, inl, inr, ◌⊎◌, arith, Some, None, Option, Contains, slice_get}
use Rattle.std.specs.Prelude.{option_map, unwrap_or, ◌==◌, ◌&&◌, if◌then◌else◌}
use Rattle.std.proofs.lemmas.Bool.{cases_lt, cases_eq, eq-eqb, ne_eqb, and_from, and_left, and_right, cond-true, cond-false}
use Rattle.std.proofs.lemmas.List.Elements.{All-contains}
use Rattle.std.proofs.lemmas.Option.{same_Some, slice_get_within, get_or_from_slice_get}
use Rattle.fab_model.specs.declared.rows.TerminalRow.{TerminalRow}
use Rattle.fab_model.specs.Topology.{Topology, lids_of, place_of}
use Rattle.fab_model.specs.Connected.{IsConnectedTo}
use Rattle.fab_model.specs.WellFormed.{IsFabric}
use Rattle.fab_tables.specs.LaneTables.{LaneTables, HasLanePerLevel, level, with_level, with_level_in_column}
use Rattle.fab_tables.specs.Fit.{LanesFit, IsSource}
use Rattle.fab_tables.proofs.Rows.LaneSets.{level_set_kept}
use Rattle.fab_tables.proofs.Rows.Cells.{one_level_changes}
use Rattle.fab_tables.proofs.Verdicts.PlainLaws.{source_of, terminal_of}
use Rattle.fab_tables.proofs.Verdicts.CertifiedLaws.{get_of}
use Rattle.fab_tables.specs.declared.starts.Start.{Start}
use Rattle.fab_tables.specs.Starts.{start_of, IsOfTerminal, AreStarts}
use Rattle.fab_tables.proofs.Joined.Lids.{connected_in_use}
use Rattle.fab_model.specs.declared.rows.Place.{Place}
use Rattle.fab_certify.specs.EnginePlans.{AreEngineLanes, HasLevels}
use Rattle.fab_lash.specs.Layerings.{layer_of_two, AreLayers}
use Rattle.fab_tables.specs.Entries.{Entries, index_of, cell}
use Rattle.fab_depgraph.specs.Listed.{Dependencies}
use Rattle.fab_lash.specs.PairLayers.{layer_at}
use Rattle.fab_lash.specs.LayeredLanes.{AreLayeredLanes}
use Rattle.fab_lash.specs.Layered.{IsLayerLevel, AreUsed}
use Rattle.fab_lash.specs.Leveling.{layer_for, IsLeveling, KeepsLevels, HasLevelsFor}

pub leveling_begins : (t : Topology) (given : ℕ → ℕ → ℕ) (count : ℕ) (l : LaneTables) → AreEngineLanes t count l → IsLeveling t given l
leveling_begins t given count l lanes = record { fits = lanes.fits; maps = lanes.maps; only = λ s lid. inl (lanes.no_level s lid) }

-- the layer for a LID at this place
pub for_place : (t : Topology) (layer : ℕ → ℕ → ℕ) (s lid : ℕ) (place : Place) → place_of t lid ≡ Some place → layer_for t layer s lid ≡ layer_of_two layer s place.switch.0
for_place t layer s lid place at = ap (λ (o : Option Place). unwrap_or (option_map (λ (p : Place). layer_of_two layer s p.switch.0) o) 0) at

-- a level is set
module _ (t : Topology) (given : ℕ → ℕ → ℕ) (l : LaneTables) (s lid : ℕ) (so_far : IsLeveling t given l) (small : given s lid < 16) (low : s < length t.switches) (in_use : Contains (lids_of t) lid) (source : IsSource t s) (connected : IsConnectedTo t s lid) where
  abbrev leveled : LaneTables
  leveled = with_level l s lid (Some (given s lid))

  changed : (other other_lid : ℕ) → level leveled other other_lid ≡ (if (other == s) && (other_lid == lid) then Some (given s lid) else level l other other_lid)
  changed other other_lid = one_level_changes l s lid other other_lid (Some (given s lid)) so_far.fits.whole (omega (arith, low, so_far.fits.switches)) (subst (λ ns. Contains ns lid) (sym so_far.fits.in_use) in_use)

  here_or_other : (other other_lid : ℕ) → (((other ≡ s) × (other_lid ≡ lid)) × (level leveled other other_lid ≡ Some (given s lid))) ⊎ (level leveled other other_lid ≡ level l other other_lid)
  here_or_other other other_lid = elim (cases_eq other s) [
    | inr ne ↦ inr (changed other other_lid ∙ cond-false ((other == s) && (other_lid == lid)) (Some (given s lid)) (level l other other_lid) (and_left (other == s) (other_lid == lid) (ne_eqb other s ne)))
    | inl same ↦ elim (cases_eq other_lid lid) [
      | inr ne ↦ inr (changed other other_lid ∙ cond-false ((other == s) && (other_lid == lid)) (Some (given s lid)) (level l other other_lid) (and_right (other == s) (other_lid == lid) (ne_eqb other_lid lid ne)))
      | inl at ↦
          inl ((same, at), changed other other_lid ∙ cond-true ((other == s) && (other_lid == lid)) (Some (given s lid)) (level l other other_lid) (and_from (other == s) (other_lid == lid) (eq-eqb other s same) (eq-eqb other_lid lid at)))
    ]
  ]

  pub level_here : level leveled s lid ≡ Some (given s lid)
  level_here = changed s lid ∙ cond-true ((s == s) && (lid == lid)) (Some (given s lid)) (level l s lid) (and_from (s == s) (lid == lid) (eq-eqb s s refl) (eq-eqb lid lid refl))

  theirs : (other other_lid : ℕ) → other ≡ s → other_lid ≡ lid → Some (given s lid) ≡ Some (given other other_lid)
  theirs other other_lid a b = let P : ℕ → Type 0 = λ z. Some (given s lid) ≡ Some (given z other_lid) in let Q : ℕ → Type 0 = λ z. Some (given s lid) ≡ Some (given s z) in subst P (sym a) (subst Q (sym b) refl)

  pub levels_kept : KeepsLevels given l leveled
  levels_kept other other_lid was = elim (here_or_other other other_lid) [ inl here ↦ here.1 ∙ theirs other other_lid here.0.0 here.0.1 | inr same ↦ same ∙ was ]

  in_column : (o : Option ℕ) → LanesFit t (with_level_in_column l s (Some (given s lid)) o) × ((with_level_in_column l s (Some (given s lid)) o).count ≡ l.count) × HasLanePerLevel (with_level_in_column l s (Some (given s lid)) o)
  in_column None = (so_far.fits, refl, so_far.maps)
  in_column (Some i) = (
    record {
      whole = level_set_kept l so_far.fits.whole (cell l.switches i s) (Some (given s lid)) small;
      switches = so_far.fits.switches;
      channels = so_far.fits.channels;
      in_use = so_far.fits.in_use;
      pairs = so_far.fits.pairs;
    },
    refl,
    record { general = so_far.maps.general; no_pair = so_far.maps.no_pair },
  )

  pub count_stays : leveled.count ≡ l.count
  count_stays = (in_column (index_of lid l.in_use)).1

  pub one_more_leveled : IsLeveling t given leveled
  one_more_leveled = record {
    fits = (in_column (index_of lid l.in_use)).0;
    maps = (in_column (index_of lid l.in_use)).2;
    only = only;
  }
    where
      only : (other other_lid : ℕ) → (level leveled other other_lid ≡ None) ⊎ ((level leveled other other_lid ≡ Some (given other other_lid)) × IsSource t other × IsConnectedTo t other other_lid)
      only other other_lid = elim (here_or_other other other_lid) [
        | inl here ↦ inr (here.1 ∙ theirs other other_lid here.0.0 here.0.1, subst (IsSource t) (sym here.0.0) source, subst (λ x. IsConnectedTo t x other_lid) (sym here.0.0) (subst (λ n. IsConnectedTo t s n) (sym here.0.1) connected))
        | inr same ↦ elim (so_far.only other other_lid) [ inl none ↦ inl (same ∙ none) | inr some ↦ inr (same ∙ some.0, some.1, some.2) ]
      ]

-- the starts so far have their level for a LID
pub record AreLeveled (t : Topology) (given : ℕ → ℕ → ℕ) (lid : ℕ) (starts : List Start) (old now : LaneTables) (index : ℕ) : Type 0 where
  pub leveling : IsLeveling t given now
  pub count : now.count ≡ old.count
  pub kept : KeepsLevels given old now
  pub has : (k : ℕ) (start : Start) → k < index → slice_get starts k ≡ Some start → IsConnectedTo t start.switch.0 lid → level now start.switch.0 lid ≡ Some (given start.switch.0 lid)

pub none_leveled : (t : Topology) (given : ℕ → ℕ → ℕ) (lid : ℕ) (starts : List Start) (l : LaneTables) → IsLeveling t given l → AreLeveled t given lid starts l l 0
none_leveled t given lid starts l leveling = record { leveling = leveling; count = refl; kept = λ s n h. h; has = λ k start low at c. absurd (omega arith) }

module _ (t : Topology) (given : ℕ → ℕ → ℕ) (fabric : IsFabric t) (lid : ℕ) (in_use : Contains (lids_of t) lid) (starts : List Start) (are : AreStarts t starts) (old now : LaneTables) (index : ℕ) (start : Start) (at : slice_get starts index ≡ Some start)
    (so_far : AreLeveled t given lid starts old now index) where
  of_terminal : IsOfTerminal t start
  of_terminal = All-contains (IsOfTerminal t) starts start are.terminals (index, slice_get_within starts index start at, get_or_from_slice_get starts index start start at)

  pub start_low : start.switch.0 < length t.switches
  start_low = subst (λ (x : Start). x.switch.0 < length t.switches) of_terminal.2 (All-contains (λ row. row.switch.0 < length t.switches) t.terminals of_terminal.0 fabric.rows.terminal_switches of_terminal.1)

  source : IsSource t start.switch.0
  source = subst (λ n. IsSource t n) (ap (λ (x : Start). x.switch.0) of_terminal.2) (source_of t.terminals of_terminal.0 of_terminal.1.0 of_terminal.1.1 of_terminal.1.2)

  later : (new : LaneTables) → IsLeveling t given new → new.count ≡ now.count → KeepsLevels given now new → (IsConnectedTo t start.switch.0 lid → level new start.switch.0 lid ≡ Some (given start.switch.0 lid)) → AreLeveled t given lid starts old new (index + 1)
  later new leveling count keeps here = record { leveling = leveling; count = count ∙ so_far.count; kept = λ s n h. keeps s n (so_far.kept s n h); has = has }
    where
      has : (k : ℕ) (other : Start) → k < index + 1 → slice_get starts k ≡ Some other → IsConnectedTo t other.switch.0 lid → level new other.switch.0 lid ≡ Some (given other.switch.0 lid)
      has k other low there c = elim (cases_lt k index) [
        | inl less ↦ keeps other.switch.0 lid (so_far.has k other less there c)
        | inr not ↦
            (let eq : index ≡ k = omega arith in
            let same : start ≡ other = same_Some start other (sym at ∙ ap (λ n. slice_get starts n) eq ∙ there) in
            subst (λ (x : Start). level new x.switch.0 lid ≡ Some (given x.switch.0 lid)) same (here (subst (λ (x : Start). IsConnectedTo t x.switch.0 lid) (sym same) c)))
      ]

  module _ (small : given start.switch.0 lid < 16) where
    pub leveled_more : IsConnectedTo t start.switch.0 lid → AreLeveled t given lid starts old (with_level now start.switch.0 lid (Some (given start.switch.0 lid))) (index + 1)
    leveled_more c = later (with_level now start.switch.0 lid (Some (given start.switch.0 lid))) (one_more_leveled t given now start.switch.0 lid so_far.leveling small start_low in_use source c)
        (count_stays t given now start.switch.0 lid so_far.leveling small start_low in_use source c) (levels_kept t given now start.switch.0 lid so_far.leveling small start_low in_use source c)
        (λ d. level_here t given now start.switch.0 lid so_far.leveling small start_low in_use source c)

  pub leveled_same : ¬ IsConnectedTo t start.switch.0 lid → AreLeveled t given lid starts old now (index + 1)
  leveled_same apart = later now so_far.leveling refl (λ s n h. h) (λ c. absurd (apart c))

-- all sources have their level for the LID
pub all_leveled : (t : Topology) (given : ℕ → ℕ → ℕ) (lid : ℕ) (starts : List Start) → AreStarts t starts → (old now : LaneTables) (index : ℕ) → AreLeveled t given lid starts old now index → length starts ≤ index → HasLevelsFor t given now lid
all_leveled t given lid starts are old now index so_far all s is_source c =
    let q : (p : TerminalRow) × Contains t.terminals p × (p.switch.0 ≡ s) = terminal_of t.terminals s is_source in
    let has : Contains starts (start_of q.0) = All-contains (λ (r : TerminalRow). Contains starts (start_of r)) t.terminals q.0 are.all q.1 in
    subst (λ n. level now n lid ≡ Some (given n lid)) q.2 (so_far.has has.0 (start_of q.0) (omega (arith, has.1, all)) (get_of starts has.0 (start_of q.0) has.1 has.2) (subst (λ n. IsConnectedTo t n lid) (sym q.2) c))

pub one_lid_leveled : (t : Topology) (given : ℕ → ℕ → ℕ) (index lid : ℕ) (a b : LaneTables) → slice_get (lids_of t) index ≡ Some lid → ((k other : ℕ) → k < index → slice_get (lids_of t) k ≡ Some other → HasLevelsFor t given a other) → KeepsLevels given a b → HasLevelsFor t given b lid →
    (k other : ℕ) → k < index + 1 → slice_get (lids_of t) k ≡ Some other → HasLevelsFor t given b other
one_lid_leveled t given index lid a b at before keeps here k other low there = elim (cases_lt k index) [
  | inl less ↦ (λ s source c. keeps s other (before k other less there s source c))
  | inr not ↦ (let eq : index ≡ k = omega arith in subst (λ n. HasLevelsFor t given b n) (same_Some lid other (sym at ∙ ap (λ n. slice_get (lids_of t) n) eq ∙ there)) here)
]

-- then the levels are the layers
pub layers_are_levels : (t : Topology) (layer : ℕ → ℕ → ℕ) (l : LaneTables) → IsLeveling t (layer_for t layer) l → ((k lid : ℕ) → k < length (lids_of t) → slice_get (lids_of t) k ≡ Some lid → HasLevelsFor t (layer_for t layer) l lid) →
    HasLevels t l (IsLayerLevel t layer)
layers_are_levels t layer l leveling has = record { levels = levels; no_other = no_other }
  where
    levels : (s lid : ℕ) → IsSource t s → IsConnectedTo t s lid → (n : ℕ) × IsLayerLevel t layer s lid n × (level l s lid ≡ Some n)
    levels s lid source c =
        let in_use : Contains (lids_of t) lid = connected_in_use t s lid c in
        (layer_for t layer s lid, (c.0, c.1, for_place t layer s lid c.0 c.1), has in_use.0 lid in_use.1 (get_of (lids_of t) in_use.0 lid in_use.1 in_use.2) s source c)

    no_other : (s lid : ℕ) → ¬ (IsSource t s × IsConnectedTo t s lid) → level l s lid ≡ None
    no_other s lid apart = elim (leveling.only s lid) [ inl none ↦ none | inr some ↦ absurd (apart (some.1, some.2)) ]

-- lanes with these levels are layered, where the arenas are of those layers
pub are_layered_lanes : (t : Topology) (e : Entries) (l : LaneTables) (used : List Dependencies) (n count : ℕ) (items layers : List ℕ) → layers ≡ items → n ≡ count → l.count ≡ count → AreLayers t e n (layer_at (length t.switches) items) →
    AreUsed t e n (layer_at (length t.switches) items) used → LanesFit t l → HasLanePerLevel l → HasLevels t l (IsLayerLevel t (layer_at (length t.switches) layers)) → AreLayeredLanes t e l used
are_layered_lanes t e l used n count items layers same lanes counted are lists fits maps levels = record {
  layer = layer_at (length t.switches) items;
  layers = let P : ℕ → Type 0 = λ m. AreLayers t e m (layer_at (length t.switches) items) in subst P (lanes ∙ sym counted) are;
  lists = let P : ℕ → Type 0 = λ m. AreUsed t e m (layer_at (length t.switches) items) used in subst P (lanes ∙ sym counted) lists;
  fits = fits;
  maps = maps;
  levels = let P : List ℕ → Type 0 = λ xs. HasLevels t l (IsLayerLevel t (layer_at (length t.switches) xs)) in subst P same levels;
}
