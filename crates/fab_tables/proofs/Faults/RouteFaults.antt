-- Faults of routes, by their places.
use Rattle.std.proofs.Common.{◌≡◌, ◌≢◌, ℕ, ◌+◌, ◌<◌, List, [], ◌∷◌, length, refl, sym, ◌∙◌, ap, subst, inl, inr, ◌⊎◌, arith, Some, None, Option, Contains}
use Rattle.std.specs.Prelude.{slice_get, slice_index, IsSome}
use Rattle.std.specs.List.Sorted.{IsStrictlyIncreasing}
use Rattle.std.proofs.lemmas.Bool.{cases_lt, cases_eq}
use Rattle.std.proofs.lemmas.Option.{same_Some, none-some, slice_get_within, get_or_from_slice_get, slice_get-get_or}
use Rattle.fab_model.specs.declared.rows.Lid.{Lid}
use Rattle.fab_model.specs.declared.rows.SwitchId.{SwitchId}
use Rattle.fab_model.specs.declared.rows.Place.{Place}
use Rattle.fab_model.specs.Topology.{Topology, place_of, lids_of}
use Rattle.fab_model.specs.Connected.{AreConnected, IsConnectedTo}
use Rattle.fab_tables.specs.declared.end.End.{End}
use Rattle.fab_tables.specs.declared.end.End.TheVariants.{Delivered}
use Rattle.fab_tables.specs.declared.verdict.Verdict.{Verdict}
use Rattle.fab_tables.specs.declared.verdict.Verdict.TheVariants.{Routes, Lanes, Unreached, NoLevel, BadLane, NoNumber, NotRising}
use Rattle.fab_tables.specs.Entries.{Entries}
use Rattle.fab_tables.specs.Fit.{EntriesFit}
use Rattle.fab_tables.specs.LaneTables.{LaneTables}
use Rattle.fab_tables.specs.Route.{route}
use Rattle.fab_tables.specs.Verdicts.{IsFaultAt}
use Rattle.fab_tables.proofs.Paths.FallingRoutes.{connected_below}
use Rattle.fab_tables.specs.Reaching.{IsToward}
use Rattle.fab_tables.specs.First.{IsBefore, IsFirst, FindsFirst, Beneath}
use Rattle.fab_tables.proofs.Joined.Lids.{connected_in_use, lesser_first}
use Rattle.fab_tables.proofs.Faults.Firsts.{none_beneath, first_beneath}

no_lanes : {P : Type 0} (l : LaneTables) → None ≡ Some l → P
no_lanes l e = absurd (none-some l e)

-- nothing comes before the empty place
pub none_before : (earlier : List ℕ) → ¬ IsBefore earlier []
none_before [] h = h
none_before (m ∷ ms) h = h

-- a switch is connected to a LID exactly where it is connected to the switch of its place
pub apart_by : (t : Topology) (lid : ℕ) (home : Place) (s : ℕ) → place_of t lid ≡ Some home → ¬ AreConnected t s home.switch.0 → ¬ IsConnectedTo t s lid
apart_by t lid home s at apart c = apart (subst (λ (p : Place). AreConnected t s p.switch.0) (same_Some c.0 home (sym c.1 ∙ at)) c.2)

module _ (t : Topology) (e : Entries) where
  abbrev P : List ℕ → Verdict → Type 0
  P = IsFaultAt t e None

  -- what a fault without lanes says
  abbrev pub IsUnreached : List ℕ → Type 0
  IsUnreached place = (lid s : ℕ) × (place ≡ 0 ∷ lid ∷ s ∷ []) × IsConnectedTo t s lid × ((route t e s lid).end ≢ Delivered)

  pub unreached : (place : List ℕ) (fault : Verdict) → P place fault → IsUnreached place
  unreached place (Unreached lid s end) f = (lid.0, s.0, f.0, f.1, λ d. f.3 (sym f.2 ∙ d))
  unreached place Routes f = no_lanes f.0 f.1
  unreached place Lanes f = no_lanes f.0 f.1
  unreached place (NoLevel a b) f = no_lanes f.0 f.1
  unreached place (BadLane a b c) f = no_lanes f.0 f.1
  unreached place (NoNumber a b c) f = no_lanes f.0 f.1
  unreached place (NotRising a b c d m n) f = no_lanes f.0 f.1

  none_empty : (fault : Verdict) → ¬ P [] fault
  none_empty fault f = absurd (omega (arith, ap (λ (xs : List ℕ). length xs) (unreached [] fault f).2))

  none_at_0 : (fault : Verdict) → ¬ P (0 ∷ []) fault
  none_at_0 fault f = absurd (omega (arith, ap (λ (xs : List ℕ). length xs) (unreached (0 ∷ []) fault f).2))

  none_at_lid : (lid : ℕ) (fault : Verdict) → ¬ P (0 ∷ lid ∷ []) fault
  none_at_lid lid fault f = absurd (omega (arith, ap (λ (xs : List ℕ). length xs) (unreached (0 ∷ lid ∷ []) fault f).2))

  none_at_other : (m : ℕ) → m ≢ 0 → FindsFirst (Beneath (m ∷ []) P) None
  none_at_other m other place fault f = other (ap (λ xs. slice_index xs 0) (unreached (m ∷ place) fault f).2)

  -- no fault stands at a switch that isn't connected, or whose route is delivered
  pub none_apart : (lid s : ℕ) → ¬ IsConnectedTo t s lid → FindsFirst (Beneath (0 ∷ lid ∷ s ∷ []) P) None
  none_apart lid s apart place fault f =
      let u : IsUnreached (0 ∷ lid ∷ s ∷ place) = unreached (0 ∷ lid ∷ s ∷ place) fault f in
      let same_lid : u.0 ≡ lid = sym (ap (λ xs. slice_index xs 1) u.2) in
      let same_switch : u.1 ≡ s = sym (ap (λ xs. slice_index xs 2) u.2) in
      apart (subst (λ x. IsConnectedTo t x lid) same_switch (subst (λ x. IsConnectedTo t u.1 x) same_lid u.3))

  pub none_delivered : (lid s : ℕ) → (route t e s lid).end ≡ Delivered → FindsFirst (Beneath (0 ∷ lid ∷ s ∷ []) P) None
  none_delivered lid s d place fault f =
      let u : IsUnreached (0 ∷ lid ∷ s ∷ place) = unreached (0 ∷ lid ∷ s ∷ place) fault f in
      let same_lid : lid ≡ u.0 = ap (λ xs. slice_index xs 1) u.2 in
      let same_switch : s ≡ u.1 = ap (λ xs. slice_index xs 2) u.2 in
      u.4 (ap (λ x. (route t e u.1 x).end) (sym same_lid) ∙ ap (λ x. (route t e x lid).end) (sym same_switch) ∙ d)

  -- from switch to switch
  pub one_switch_clear : (lid s : ℕ) → ((m : ℕ) → m < s → FindsFirst (Beneath (0 ∷ lid ∷ m ∷ []) P) None) → FindsFirst (Beneath (0 ∷ lid ∷ s ∷ []) P) None → (m : ℕ) → m < s + 1 → FindsFirst (Beneath (0 ∷ lid ∷ m ∷ []) P) None
  one_switch_clear lid s before here m less = elim (cases_lt m s) [
    | inl low ↦ before m low
    | inr past ↦ subst (λ k. FindsFirst (Beneath (0 ∷ lid ∷ k ∷ []) P) None) (omega (arith, less, past)) here
  ]

  pub none_for_lid : (lid : ℕ) → IsToward t e lid → ((s : ℕ) → s < length t.switches → FindsFirst (Beneath (0 ∷ lid ∷ s ∷ []) P) None) → FindsFirst (Beneath (0 ∷ lid ∷ []) P) None
  none_for_lid lid toward none = none_beneath (Beneath (0 ∷ lid ∷ []) P) (none_at_lid lid) below
    where
      below : (s : ℕ) → FindsFirst (Beneath (0 ∷ lid ∷ s ∷ []) P) None
      below s = elim (cases_lt s (length t.switches)) [ inl low ↦ none s low | inr past ↦ none_apart lid s (λ c. omega (arith, connected_below t toward.fabric.rows s lid c)) ]

  pub first_for_lid : (lid : Lid) (s : SwitchId) (end : End) → IsConnectedTo t s.0 lid.0 → (route t e s.0 lid.0).end ≡ end → end ≢ Delivered →
      ((m : ℕ) → m < s.0 → FindsFirst (Beneath (0 ∷ lid.0 ∷ m ∷ []) P) None) → FindsFirst (Beneath (0 ∷ lid.0 ∷ []) P) (Some (Unreached lid s end))
  first_for_lid lid s end connected ends other none = first_beneath (Beneath (0 ∷ lid.0 ∷ []) P) (none_at_lid lid.0) s.0 (Unreached lid s end) here none
    where
      here : IsFirst (Beneath (0 ∷ lid.0 ∷ s.0 ∷ []) P) (Unreached lid s end)
      here = ([], (refl, connected, ends, other), λ earlier fault before f. none_before earlier before)

  -- LIDs are looked at in ascending order
  module _ (fits : EntriesFit t e) (index lid : ℕ) (at : slice_get (lids_of t) index ≡ Some lid)
      (none : (k other : ℕ) → k < index → slice_get (lids_of t) k ≡ Some other → FindsFirst (Beneath (0 ∷ other ∷ []) P) None) where
    none_below : (m : ℕ) → m < lid → FindsFirst (Beneath (0 ∷ m ∷ []) P) None
    none_below m less place fault f =
        none has.0 m (lesser_first (lids_of t) index m ascending has low (omega (arith, get_or_from_slice_get (lids_of t) index lid m at)))
        (slice_get-get_or (lids_of t) has.0 m has.1 ∙ ap (λ x. Some x) has.2) place fault f
      where
        u : IsUnreached (0 ∷ m ∷ place)
        u = unreached (0 ∷ m ∷ place) fault f

        has : Contains (lids_of t) m
        has = subst (λ x. Contains (lids_of t) x) (sym (ap (λ xs. slice_index xs 1) u.2)) (connected_in_use t u.1 u.0 u.3)

        ascending : IsStrictlyIncreasing (lids_of t)
        ascending = subst (λ xs. IsStrictlyIncreasing xs) fits.in_use fits.whole.ascending

        low : index < length (lids_of t)
        low = slice_get_within (lids_of t) index lid at

    pub first_by_lid : (found : Option Verdict) → IsSome found → FindsFirst (Beneath (0 ∷ lid ∷ []) P) found → FindsFirst P found
    first_by_lid None some first = cc
    first_by_lid (Some fault) some first = first_beneath P none_empty 0 fault (first_beneath (Beneath (0 ∷ []) P) none_at_0 lid fault first none_below) (λ m less. absurd (omega arith))

    pub one_lid_clear : (found : Option Verdict) → found ≡ None → FindsFirst (Beneath (0 ∷ lid ∷ []) P) found →
        (k other : ℕ) → k < index + 1 → slice_get (lids_of t) k ≡ Some other → FindsFirst (Beneath (0 ∷ other ∷ []) P) None
    one_lid_clear found nothing here k other low there = elim (cases_lt k index) [
      | inl less ↦ none k other less there
      | inr same ↦
          (let eq : index ≡ k = omega arith in
          let is : lid ≡ other = same_Some lid other (sym at ∙ ap (λ n. slice_get (lids_of t) n) eq ∙ there) in
          let none_here : FindsFirst (Beneath (0 ∷ lid ∷ []) P) None = subst (λ o. FindsFirst (Beneath (0 ∷ lid ∷ []) P) o) nothing here in
          subst (λ n. FindsFirst (Beneath (0 ∷ n ∷ []) P) None) is none_here)
    ]

  pub none_by_lid : ((k lid : ℕ) → k < length (lids_of t) → slice_get (lids_of t) k ≡ Some lid → FindsFirst (Beneath (0 ∷ lid ∷ []) P) None) → FindsFirst P None
  none_by_lid none = none_beneath P none_empty (λ m. kinds m (cases_eq m 0))
    where
      in_use : (lid : ℕ) → FindsFirst (Beneath (0 ∷ lid ∷ []) P) None
      in_use lid place fault f =
          let u : IsUnreached (0 ∷ lid ∷ place) = unreached (0 ∷ lid ∷ place) fault f in
          let has : Contains (lids_of t) lid = subst (λ x. Contains (lids_of t) x) (sym (ap (λ xs. slice_index xs 1) u.2)) (connected_in_use t u.1 u.0 u.3) in
          none has.0 lid has.1 (slice_get-get_or (lids_of t) has.0 lid has.1 ∙ ap (λ x. Some x) has.2) place fault f

      kinds : (m : ℕ) → (m ≡ 0) ⊎ (m ≢ 0) → FindsFirst (Beneath (m ∷ []) P) None
      kinds m (inl zero_is) = subst (λ k. FindsFirst (Beneath (k ∷ []) P) None) (sym zero_is) (none_beneath (Beneath (0 ∷ []) P) none_at_0 in_use)
      kinds m (inr other) = none_at_other m other
