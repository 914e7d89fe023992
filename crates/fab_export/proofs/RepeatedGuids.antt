-- LIDs without a port GUID, or with that of a lesser LID.
use Rattle.std.proofs.Common.{◌≡◌, ℕ, zero, suc, ◌+◌, ◌<◌, ◌≤◌, ◌&&◌, ◌||◌, inl, inr, Bool, true, false, List, [], ◌∷◌, length, map, take, get_or, nat_eq, Some, None, refl, sym, ◌∙◌, ap, arith}
use Rattle.std.specs.Prelude.{◌==◌, nat_lt, if◌then◌else◌}
use Rattle.std.specs.Bool.{then_some}
use Rattle.std.specs.List.{list_any}
use Rattle.std.proofs.lemmas.Bool.{cases_eq, eq-eqb, ne_eqb, lt-ltb, le-ltb}
use Rattle.std.proofs.lemmas.List.{get_or-map, length-map}
use Rattle.std.proofs.lemmas.List.Folds.{list_any_more}
use Rattle.std.proofs.lemmas.List.Kept.{AllPairs-from_increasing}
use Rattle.std.proofs.lemmas.Option.{slice_get-get_or}
use Rattle.fab_model.specs.declared.rows.Lid.{Lid}
use Rattle.fab_model.specs.Topology.{Topology, lids_of, lid_id}
use Rattle.fab_model.specs.WellFormed.{IsFabric}
use Rattle.fab_model.proofs.Faultless.Facts.{slice_get_in}
use Rattle.fab_model.proofs.Lists.Members.{In, Pairs, pairs_from_AllPairs}
use Rattle.fab_tables.proofs.Joined.Ascending.{lids_ascend}
use Rattle.fab_export.specs.declared.fault.Unfit.{Unfit}
use Rattle.fab_export.specs.declared.fault.Unfit.TheVariants as unfit
use Rattle.fab_export.specs.PortGuids.{port_guid}
use Rattle.fab_export.specs.Unfits.{repeats_port_guid, port_guid_fault, bad_port_guid}
use Rattle.fab_export.proofs.FirstFound.{no_reason, first_reason}

-- ---- lesser elements of an ascending list are those before

none_lesser : (q : ℕ → Bool) (n : ℕ) (xs : List ℕ) → ((x : ℕ) → In x xs → n ≤ x) → list_any (λ x. nat_lt x n && q x) xs ≡ false
none_lesser q n [] above = refl
none_lesser q n (x ∷ xs) above = ap (λ b. (b && q x) || list_any (λ y. nat_lt y n && q y) xs) (le-ltb x n (above x (inl refl))) ∙ none_lesser q n xs (λ y within. above y (inr within))

lesser_before : (q : ℕ → Bool) (xs : List ℕ) (i d : ℕ) → Pairs (λ x y. x < y) xs → i < length xs → list_any (λ x. nat_lt x (get_or xs i d) && q x) xs ≡ list_any q (take i xs)
lesser_before q [] i d up low = absurd (omega (arith, low))
lesser_before q (x ∷ xs) zero d up low = none_lesser q x (x ∷ xs) above
  where
    above : (y : ℕ) → In y (x ∷ xs) → x ≤ y
    above y (inl same) = omega (arith, same)
    above y (inr within) = let less : x < y = up.0 y within in omega (arith, less)
lesser_before q (x ∷ xs) (suc i) d up low =
    let there : i < length xs = omega (arith, low) in
    let less : x < get_or xs i d = up.0 (get_or xs i d) (slice_get_in xs i (get_or xs i d) (slice_get-get_or xs i d there)) in
    ap (λ b. (b && q x) || list_any (λ y. nat_lt y (get_or xs i d) && q y) xs) (lt-ltb x (get_or xs i d) less) ∙ ap (λ b. q x || b) (lesser_before q xs i d up.1 there)

-- ---- one LID after the other

module _ (t : Topology) (rows : List Lid) (index : ℕ) (same : map (λ (lid : Lid). lid.0) rows ≡ lids_of t) where
  abbrev NoneBad : ℕ → Type 0
  NoneBad n = (i d : ℕ) → i < n → port_guid_fault t (get_or (lids_of t) i d) ≡ None

  lid : ℕ
  lid = (get_or rows index (lid_id 0)).0

  as_many : length rows ≡ length (lids_of t)
  as_many = sym (length-map rows (λ (lid : Lid). lid.0)) ∙ ap length same

  module _ (low : index < length rows) (none : NoneBad index) where
    at : (d : ℕ) → get_or (lids_of t) index d ≡ (get_or rows index (lid_id 0)).0
    at d = sym (ap (λ (xs : List ℕ). get_or xs index d) same) ∙ get_or-map (λ (lid : Lid). lid.0) rows index (lid_id 0) d low

    found : (reason : Unfit) → port_guid_fault t (get_or rows index (lid_id 0)).0 ≡ Some reason → Some reason ≡ bad_port_guid t
    found reason is = sym (first_reason (port_guid_fault t) (lids_of t) index 0 reason (omega (arith, low, as_many)) none (ap (port_guid_fault t) (at 0) ∙ is))

    pub first_without : port_guid t (get_or rows index (lid_id 0)).0 ≡ 0 → Some (unfit.NoPortGuid (get_or rows index (lid_id 0))) ≡ bad_port_guid t
    first_without zero_guid =
        found (unfit.NoPortGuid (get_or rows index (lid_id 0)))
        (ap (λ b. if b then Some (unfit.NoPortGuid (lid_id (get_or rows index (lid_id 0)).0)) else then_some (repeats_port_guid t (get_or rows index (lid_id 0)).0) (unfit.TwicePortGuid (lid_id (get_or rows index (lid_id 0)).0) (port_guid t (get_or rows index (lid_id 0)).0)))
        (eq-eqb (port_guid t (get_or rows index (lid_id 0)).0) 0 zero_guid))

    module _ (kept : IsFabric t) (guid : ℕ) (is : guid ≡ port_guid t (get_or rows index (lid_id 0)).0) (some : guid ≡ 0 → ⊥) (known : ℕ → Bool)
        (are : (g : ℕ) → known g ≡ list_any (λ lid. port_guid t lid == g) (take index (lids_of t))) where
      -- a lesser LID has the GUID exactly where it is known
      repeats : repeats_port_guid t (get_or rows index (lid_id 0)).0 ≡ known guid
      repeats =
          ap (λ (n : ℕ). repeats_port_guid t n) (sym (at 0))
          ∙ lesser_before (λ other. port_guid t other == port_guid t (get_or (lids_of t) index 0)) (lids_of t) index 0
          (pairs_from_AllPairs (λ x y. x < y) (lids_of t) (AllPairs-from_increasing (lids_of t) (lids_ascend t kept))) (omega (arith, low, as_many))
          ∙ ap (λ (g : ℕ). list_any (λ other. port_guid t other == g) (take index (lids_of t))) (ap (port_guid t) (at 0) ∙ sym is) ∙ sym (are guid)

      fault : (b : Bool) → known guid ≡ b → port_guid_fault t (get_or rows index (lid_id 0)).0 ≡ then_some b (unfit.TwicePortGuid (get_or rows index (lid_id 0)) guid)
      fault b is_known =
          ap (λ c. if c then Some (unfit.NoPortGuid (lid_id (get_or rows index (lid_id 0)).0)) else then_some (repeats_port_guid t (get_or rows index (lid_id 0)).0) (unfit.TwicePortGuid (lid_id (get_or rows index (lid_id 0)).0) (port_guid t (get_or rows index (lid_id 0)).0)))
          (ne_eqb (port_guid t (get_or rows index (lid_id 0)).0) 0 (λ z. some (is ∙ z)))
          ∙ ap (λ c. then_some c (unfit.TwicePortGuid (get_or rows index (lid_id 0)) (port_guid t (get_or rows index (lid_id 0)).0))) (repeats ∙ is_known)
          ∙ ap (λ g. then_some b (unfit.TwicePortGuid (get_or rows index (lid_id 0)) g)) (sym is)

      pub first_twice : known guid ≡ true → Some (unfit.TwicePortGuid (get_or rows index (lid_id 0)) guid) ≡ bad_port_guid t
      first_twice is_known = found (unfit.TwicePortGuid (get_or rows index (lid_id 0)) guid) (fault true is_known)

      pub none_more : known guid ≡ false → NoneBad (index + 1)
      none_more unknown i d within = elim (cases_eq i index) [
        | inl here ↦ ap (λ (n : ℕ). port_guid_fault t (get_or (lids_of t) n d)) here ∙ ap (port_guid_fault t) (at d) ∙ fault false unknown
        | inr other ↦ none i d (omega (arith, within, other))
      ]

      -- with the GUID of this LID
      pub known_more : (now : Bool) (g : ℕ) → now ≡ (nat_eq g guid || known g) → now ≡ list_any (λ lid. port_guid t lid == g) (take (index + 1) (lids_of t))
      known_more now g with_it = with_it ∙ swapped (nat_eq g guid) (known g) ∙ ap (λ b. b || nat_eq g guid) (are g) ∙ ap (λ b. list_any (λ lid. port_guid t lid == g) (take index (lids_of t)) || b) here
          ∙ sym (list_any_more (λ lid. port_guid t lid == g) (lids_of t) index 0 (omega (arith, low, as_many)))
        where
          swapped : (a b : Bool) → (a || b) ≡ (b || a)
          swapped true true = refl
          swapped true false = refl
          swapped false true = refl
          swapped false false = refl

          here : nat_eq g guid ≡ (port_guid t (get_or (lids_of t) index 0) == g)
          here = elim (cases_eq g guid) [
            | inl e ↦ eq-eqb g guid e ∙ sym (eq-eqb (port_guid t (get_or (lids_of t) index 0)) g (ap (port_guid t) (at 0) ∙ sym is ∙ sym e))
            | inr n ↦ ne_eqb g guid n ∙ sym (ne_eqb (port_guid t (get_or (lids_of t) index 0)) g (λ e. n (sym (is ∙ ap (port_guid t) (sym (at 0)) ∙ e))))
          ]

  pub nothing_bad : length rows ≤ index → NoneBad index → None ≡ bad_port_guid t
  nothing_bad past none = sym (no_reason (port_guid_fault t) (lids_of t) (λ i d low. none i d (omega (arith, low, past, as_many))))
