-- The first missing level is found LID by LID, source by source, and plan by plan.
use Rattle.std.proofs.Common.{◌≡◌, ℕ, suc, ◌+◌, ◌<◌, ◌≤◌, List, [], ◌∷◌, length, refl, sym, ◌∙◌, ap, subst, inl, inr, arith, Contains, Some, None, Option, slice_get}
use Rattle.std.specs.Prelude.{slice_index_or, MatchOption, is_some, true, false}
use Rattle.std.specs.List.Sorted.{IsStrictlyIncreasing}
use Rattle.std.proofs.lemmas.Bool.{cases_lt}
use Rattle.std.proofs.lemmas.List.Elements.{All-contains}
use Rattle.std.proofs.lemmas.Option.{same_Some, none-some, slice_get_within, get_or_from_slice_get, slice_get-get_or}
use Rattle.fab_model.specs.declared.rows.Lid.{Lid}
use Rattle.fab_model.specs.declared.rows.SwitchId.{SwitchId}
use Rattle.fab_model.specs.declared.rows.TerminalRow.{TerminalRow}
use Rattle.fab_model.specs.Topology.{Topology, lids_of, place_of}
use Rattle.fab_model.specs.Connected.{IsConnectedTo}
use Rattle.fab_tables.specs.declared.starts.Start.{Start}
use Rattle.fab_tables.specs.Starts.{StartsNotAfter, IsOfTerminal}
use Rattle.fab_tables.specs.Fit.{IsSource}
use Rattle.fab_tables.specs.First.{IsBefore, IsFirst}
use Rattle.fab_tables.proofs.Joined.Lids.{connected_in_use, lesser_first}
use Rattle.fab_tables.proofs.Verdicts.PlainLaws.{terminal_of, source_of}
use Rattle.fab_tables.proofs.Faults.StartFaults.{start_at}
use Rattle.fab_transit.specs.declared.mixed.Side.{Side}
use Rattle.fab_transit.specs.declared.mixed.Mixed.{Mixed}
use Rattle.fab_transit.specs.declared.mixed.Mixed.TheVariants.{Numbers, NoLevel, Lost, BadLane, RingMixed}
use Rattle.fab_transit.specs.MixedWalks.{Change}
use Rattle.fab_transit.specs.Answers.{LacksLevel, IsFaultAt, side_number}
use Rattle.fab_transit.specs.Levels.{HasAllLevels, HasLevelsFor, HasLevelsAt, IsFirstAt, IsFirstFor}
use Rattle.fab_transit.specs.Changing.{Changing, IsChanging}
use Rattle.fab_transit.specs.Standing.{StandsIn, AreStanding}
use Rattle.fab_transit.proofs.Alike.{same_switch}

-- a start at the switch of each source
start_of_source : (t : Topology) (m : Change) (starts : List Start) → AreStanding t m starts → (s : ℕ) → IsSource t s → (k : ℕ) × (start : Start) × (slice_get starts k ≡ Some start) × (start.switch.0 ≡ s)
start_of_source t m starts are s source =
    let q : (p : TerminalRow) × Contains t.terminals p × (p.switch.0 ≡ s) = terminal_of t.terminals s source in
    let stands : (start : Start) × Contains starts start × StandsIn m start q.0 = All-contains (λ row. (start : Start) × Contains starts start × StandsIn m start row) t.terminals q.0 are.all q.1 in
    (stands.1.0, stands.0, slice_get-get_or starts stands.1.0 stands.0 stands.1.1 ∙ ap (λ (x : Start). Some x) stands.1.2, same_switch m stands.0 q.0 stands.2 ∙ q.2)

-- each start is at a source
pub source_at : (t : Topology) (m : Change) (starts : List Start) (k : ℕ) → AreStanding t m starts → k < length starts → IsSource t (start_at starts k).switch.0
source_at t m starts k are low =
    let of_terminal : IsOfTerminal t (start_at starts k) = are.terminals k (record { switch = record { 0 = 0 }; port = 0 }) low in
    subst (λ (x : Start). IsSource t x.switch.0) of_terminal.2 (source_of t.terminals of_terminal.0 of_terminal.1.0 of_terminal.1.1 of_terminal.1.2)

-- nothing is connected to a LID without a place
pub none_unplaced : (t : Topology) (m : Change) (lid : ℕ) → place_of t lid ≡ None → HasLevelsFor t m lid
none_unplaced t m lid none source side lacks = absurd (none-some lacks.connected.0 (sym none ∙ lacks.connected.1))

-- the starts before this one have all levels, where they are connected
abbrev pub HaveLevels : Topology → Change → ℕ → List Start → ℕ → Type 0
HaveLevels t m lid starts index = (k : ℕ) (start : Start) → k < index → slice_get starts k ≡ Some start → IsConnectedTo t start.switch.0 lid → HasLevelsAt t m lid start.switch.0

-- so do the LIDs
abbrev pub HaveLids : Topology → Change → ℕ → Type 0
HaveLids t m index = (k lid : ℕ) → k < index → slice_get (lids_of t) k ≡ Some lid → HasLevelsFor t m lid

module _ (t : Topology) (m : Change) (lid : ℕ) (starts : List Start) where
  pub one_start_more : (index : ℕ) (start : Start) → slice_get starts index ≡ Some start → HaveLevels t m lid starts index → (IsConnectedTo t start.switch.0 lid → HasLevelsAt t m lid start.switch.0) →
      HaveLevels t m lid starts (index + 1)
  one_start_more index start at before here k other low there connected = elim (cases_lt k index) [
    | inl less ↦ before k other less there connected
    | inr same ↦
        (let eq : index ≡ k = omega (arith, low, same) in
        let one : start ≡ other = same_Some start other (sym at ∙ ap (λ n. slice_get starts n) eq ∙ there) in
        subst (λ (x : Start). IsConnectedTo t x.switch.0 lid → HasLevelsAt t m lid x.switch.0) one here connected)
  ]

  pub all_levels : AreStanding t m starts → (index : ℕ) → length starts ≤ index → HaveLevels t m lid starts index → HasLevelsFor t m lid
  all_levels are index past have source side lacks =
      let x = start_of_source t m starts are source lacks.of_source in
      let levels : HasLevelsAt t m lid x.1.switch.0
      = have x.0 x.1 (omega (arith, past, slice_get_within starts x.0 x.1 x.2)) x.2 (subst (λ s. IsConnectedTo t s lid) (sym x.3) lacks.connected) in
      levels side (subst (λ s. LacksLevel t m lid s side) (sym x.3) lacks)

pub first_for : (t : Topology) (m : Change) (lid : Lid) (starts : List Start) (are : AreStanding t m starts) (index : ℕ) (start : Start) → slice_get starts index ≡ Some start → HaveLevels t m lid.0 starts index →
    (fault : Mixed) → IsFirstAt t m lid start.switch fault → IsFirstFor t m lid fault
first_for t m lid starts are index start at before fault first = record { source = start.switch; side = first.side; is = first.is; lacks = first.lacks; none_before = none }
  where
    none : (s : ℕ) (other : Side) → IsBefore (s ∷ side_number other ∷ []) (start.switch.0 ∷ side_number first.side ∷ []) → ¬ LacksLevel t m lid.0 s other
    none s other (inl less) lacks =
        let x = start_of_source t m starts are s lacks.of_source in
        let low : x.0 < index = elim (cases_lt x.0 index) [
          | inl h ↦ h
          | inr past ↦
              (let order : StartsNotAfter start x.1
              = subst (λ y. StartsNotAfter start y) (get_or_from_slice_get starts x.0 x.1 x.1 x.2)
              (subst (λ y. StartsNotAfter y (slice_index_or starts x.0 x.1)) (get_or_from_slice_get starts index start x.1 at) (are.in_order index x.0 x.1 past (slice_get_within starts x.0 x.1 x.2))) in
              absurd (after order x.3))
        ] in
        before x.0 x.1 low x.2 (subst (λ y. IsConnectedTo t y lid.0) (sym x.3) lacks.connected) other (subst (λ y. LacksLevel t m lid.0 y other) (sym x.3) lacks)
      where
        after : {other_start : Start} → StartsNotAfter start other_start → other_start.switch.0 ≡ s → ⊥
        after (inl more) is = omega (arith, more, is, less)
        after (inr same) is = omega (arith, same.0, is, less)
    none s other (inr same) lacks = elim same.1 [
      | inl less ↦ first.none_before other less (subst (λ y. LacksLevel t m lid.0 y other) same.0 lacks)
      | inr both ↦ absurd both.1
    ]

module _ (t : Topology) (m : Change) where
  pub one_lid_more : (index lid : ℕ) → slice_get (lids_of t) index ≡ Some lid → HaveLids t m index → HasLevelsFor t m lid → HaveLids t m (index + 1)
  one_lid_more index lid at before here k other low there = elim (cases_lt k index) [
    | inl less ↦ before k other less there
    | inr same ↦
        (let eq : index ≡ k = omega (arith, low, same) in
        subst (λ n. HasLevelsFor t m n) (same_Some lid other (sym at ∙ ap (λ n. slice_get (lids_of t) n) eq ∙ there)) here)
  ]

  at_place : (lid : ℕ) → Contains (lids_of t) lid → (k : ℕ) × (slice_get (lids_of t) k ≡ Some lid)
  at_place lid has = (has.0, slice_get-get_or (lids_of t) has.0 lid has.1 ∙ ap (λ (n : ℕ). Some n) has.2)

  pub all_lids : (index : ℕ) → length (lids_of t) ≤ index → HaveLids t m index → HasAllLevels t m
  unfolding at_place
  all_lids index past have lid source side lacks =
      let has : Contains (lids_of t) lid = connected_in_use t source lid lacks.connected in
      have has.0 lid (omega (arith, past, has.1)) (at_place lid has).1 source side lacks

  pub first_of_all : IsStrictlyIncreasing (lids_of t) → (index : ℕ) (lid : Lid) → slice_get (lids_of t) index ≡ Some lid.0 → HaveLids t m index → (fault : Mixed) → IsFirstFor t m lid fault → IsFirst (IsFaultAt t m) fault
  unfolding at_place
  first_of_all ascending index lid at before fault first =
      subst (λ x. IsFirst (IsFaultAt t m) x) (sym first.is) (0 ∷ lid.0 ∷ first.source.0 ∷ side_number first.side ∷ [], (refl, first.lacks), none)
    where
      lesser : (other source : ℕ) (side : Side) → other < lid.0 → ¬ LacksLevel t m other source side
      lesser other source side less lacks =
          let has : Contains (lids_of t) other = connected_in_use t source other lacks.connected in
          before has.0 other (lesser_first (lids_of t) index other ascending has (slice_get_within (lids_of t) index lid.0 at) (omega (arith, less, get_or_from_slice_get (lids_of t) index lid.0 other at)))
          (at_place other has).1 source side lacks

      missing : (other : Lid) (source : SwitchId) (side : Side) →
          IsBefore (0 ∷ other.0 ∷ source.0 ∷ side_number side ∷ []) (0 ∷ lid.0 ∷ first.source.0 ∷ side_number first.side ∷ []) → ¬ LacksLevel t m other.0 source.0 side
      missing other source side (inl h) lacks = omega (arith, h)
      missing other source side (inr (z, inl less)) lacks = lesser other.0 source.0 side less lacks
      missing other source side (inr (z, inr same)) lacks = first.none_before source.0 side same.1 (subst (λ n. LacksLevel t m n source.0 side) same.0 lacks)

      later : (n : ℕ) (rest : List ℕ) → IsBefore (suc n ∷ rest) (0 ∷ lid.0 ∷ first.source.0 ∷ side_number first.side ∷ []) → ⊥
      later n rest (inl h) = omega (arith, h)
      later n rest (inr h) = omega (arith, h.0)

      none : (earlier : List ℕ) (other : Mixed) → IsBefore earlier (0 ∷ lid.0 ∷ first.source.0 ∷ side_number first.side ∷ []) → ¬ IsFaultAt t m earlier other
      none earlier (Numbers l) less f = f
      none earlier (RingMixed r) less f = f
      none earlier (NoLevel x source side) less f = missing x source side (subst (λ p. IsBefore p (0 ∷ lid.0 ∷ first.source.0 ∷ side_number first.side ∷ [])) f.0 less) f.1
      none earlier (Lost x s side end) less f = later 0 (x.0 ∷ s.0 ∷ side_number side ∷ []) (subst (λ p. IsBefore p (0 ∷ lid.0 ∷ first.source.0 ∷ side_number first.side ∷ [])) f.0 less)
      none earlier (BadLane x s side) less f = later 1 (x.0 ∷ s.0 ∷ side_number side ∷ []) (subst (λ p. IsBefore p (0 ∷ lid.0 ∷ first.source.0 ∷ side_number first.side ∷ [])) f.0 less)

-- what is found for a start, and for a LID, is the first
pub missing_first : (t : Topology) (m : Change) (lid : Lid) (starts : List Start) → AreStanding t m starts → (index : ℕ) (start : Start) → slice_get starts index ≡ Some start → HaveLevels t m lid.0 starts index →
    (found : Option Mixed) → is_some found ≡ true → MatchOption found (HasLevelsAt t m lid.0 start.switch.0) (IsFirstAt t m lid start.switch) → MatchOption found (HasLevelsFor t m lid.0) (IsFirstFor t m lid)
missing_first t m lid starts are index start at before None some found = cc
missing_first t m lid starts are index start at before (Some fault) some found = first_for t m lid starts are index start at before fault found

pub missing_none : (t : Topology) (m : Change) (lid : Lid) (source : SwitchId) (found : Option Mixed) → is_some found ≡ false → MatchOption found (HasLevelsAt t m lid.0 source.0) (IsFirstAt t m lid source) → HasLevelsAt t m lid.0 source.0
missing_none t m lid source None none found = found
missing_none t m lid source (Some fault) none found = cc

pub lids_ascending : (g : Changing) → IsChanging g → IsStrictlyIncreasing (lids_of g.fabric)
lids_ascending g is = subst (λ xs. IsStrictlyIncreasing xs) is.before.tables.in_use is.before.tables.whole.ascending

pub found_first : (g : Changing) → IsChanging g → (index : ℕ) (lid : Lid) → slice_get (lids_of g.fabric) index ≡ Some lid.0 → HaveLids g.fabric g.change index → (found : Option Mixed) → is_some found ≡ true →
    MatchOption found (HasLevelsFor g.fabric g.change lid.0) (IsFirstFor g.fabric g.change lid) → MatchOption found (HasAllLevels g.fabric g.change) (IsFirst (IsFaultAt g.fabric g.change))
found_first g is index lid at before None some found = cc
found_first g is index lid at before (Some fault) some found = first_of_all g.fabric g.change (lids_ascending g is) index lid at before fault found

pub found_none : (t : Topology) (m : Change) (lid : Lid) (found : Option Mixed) → is_some found ≡ false → MatchOption found (HasLevelsFor t m lid.0) (IsFirstFor t m lid) → HasLevelsFor t m lid.0
found_none t m lid None none found = found
found_none t m lid (Some fault) none found = cc
