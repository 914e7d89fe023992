-- Routes that pass too many switches.
use Rattle.std.proofs.Common.{◌≡◌, ℕ, ◌+◌, ◌<◌, ◌≤◌, ◌&&◌, inl, inr, Bool, true, false, List, length, map, get_or, Option, Some, None, refl, sym, ◌∙◌, ap, arith}
use Rattle.std.specs.Prelude.{find, option_map}
use Rattle.std.specs.List.{range_with_len}
use Rattle.std.specs.Option.{is_some}
use Rattle.std.proofs.lemmas.Bool.{cases_eq}
use Rattle.std.proofs.lemmas.List.{get_or-map, length-map}
use Rattle.fab_model.specs.declared.rows.Lid.{Lid}
use Rattle.fab_model.specs.Topology.{Topology, lids_of, is_source, lid_id, switch_id}
use Rattle.fab_tables.specs.Entries.{Entries}
use Rattle.fab_export.specs.declared.fault.Unfit.{Unfit}
use Rattle.fab_export.specs.declared.fault.Unfit.TheVariants as unfit
use Rattle.fab_export.specs.LevelsInUse.{sources}
use Rattle.fab_export.specs.Unfits.{is_too_far, too_far_from, too_far}
use Rattle.fab_export.proofs.FirstFound.{NoneBelow, found_here, none_found, find_kept, no_reason, first_reason}

module _ (t : Topology) (e : Entries) (lid : ℕ) where
  abbrev pub far_source : ℕ → Bool
  far_source s = is_source t s && is_too_far t e lid s

  abbrev found_as : Option ℕ → Option Unfit
  found_as found = option_map (λ s. unfit.TooFar (lid_id lid) (switch_id s)) found

  among_sources : find (is_too_far t e lid) (sources t) ≡ find far_source (range_with_len 0 (length t.switches))
  among_sources = find_kept (is_too_far t e lid) (is_source t) (range_with_len 0 (length t.switches))

  pub far_found : (s : ℕ) → s < length t.switches → NoneBelow far_source s → is_source t s ≡ true → is_too_far t e lid s ≡ true → Some (unfit.TooFar (lid_id lid) (switch_id s)) ≡ too_far_from t e lid
  far_found s low none source far =
      sym (ap found_as (among_sources ∙ found_here far_source (length t.switches) s low none (ap (λ b. b && is_too_far t e lid s) source ∙ far)))

  pub none_far : NoneBelow far_source (length t.switches) → None ≡ too_far_from t e lid
  none_far none = sym (ap found_as (among_sources ∙ none_found far_source (length t.switches) none))

-- ---- LID by LID, over the rows of LIDs in use

module _ (t : Topology) (e : Entries) (rows : List Lid) (index : ℕ) where
  -- none of the first LIDs is too far from a source
  abbrev pub NoneFar : ℕ → Type 0
  NoneFar n = (i d : ℕ) → i < n → too_far_from t e (get_or (lids_of t) i d) ≡ None

  lid_at : map (λ (lid : Lid). lid.0) rows ≡ lids_of t → index < length rows → (d : ℕ) (other : Lid) → get_or (lids_of t) index d ≡ (get_or rows index other).0
  lid_at same low d other = sym (ap (λ (xs : List ℕ). get_or xs index d) same) ∙ get_or-map (λ (lid : Lid). lid.0) rows index other d low

  as_many : map (λ (lid : Lid). lid.0) rows ≡ lids_of t → length rows ≡ length (lids_of t)
  as_many same = sym (length-map rows (λ (lid : Lid). lid.0)) ∙ ap length same

  some_there : (o : Option Unfit) → is_some o ≡ true → (x : Unfit) × (o ≡ Some x)
  some_there None is = absurd (cc)
  some_there (Some x) is = (x, refl)

  none_there : (o : Option Unfit) → is_some o ≡ false → o ≡ None
  none_there None is = refl
  none_there (Some x) is = absurd (cc)

  pub first_far : (far : Option Unfit) → map (λ (lid : Lid). lid.0) rows ≡ lids_of t → index < length rows → NoneFar index → far ≡ too_far_from t e (get_or rows index (lid_id 0)).0 → is_some far ≡ true → far ≡ too_far t e
  first_far far same low none is some =
      let there : (x : Unfit) × (far ≡ Some x) = some_there far some in
      let at : too_far_from t e (get_or (lids_of t) index 0) ≡ Some there.0 = ap (too_far_from t e) (lid_at same low 0 (lid_id 0)) ∙ sym is ∙ there.1 in
      there.1 ∙ sym (first_reason (too_far_from t e) (lids_of t) index 0 there.0 (omega (arith, low, as_many same)) none at)

  pub none_so_far : (far : Option Unfit) → map (λ (lid : Lid). lid.0) rows ≡ lids_of t → index < length rows → NoneFar index → far ≡ too_far_from t e (get_or rows index (lid_id 0)).0 → is_some far ≡ false → NoneFar (index + 1)
  none_so_far far same low none is off i d within = elim (cases_eq i index) [
    | inl here ↦ ap (λ (n : ℕ). too_far_from t e (get_or (lids_of t) n d)) here ∙ ap (too_far_from t e) (lid_at same low d (lid_id 0)) ∙ sym is ∙ none_there far off
    | inr other ↦ none i d (omega (arith, within, other))
  ]

  pub nothing_far : map (λ (lid : Lid). lid.0) rows ≡ lids_of t → length rows ≤ index → NoneFar index → None ≡ too_far t e
  nothing_far same past none = sym (no_reason (too_far_from t e) (lids_of t) (λ i d low. none i d (omega (arith, low, past, as_many same))))
