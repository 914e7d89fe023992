-- The LIDs in use: what is connected to a LID has it in use, and they are looked at in ascending order.
use Rattle.std.proofs.Common.{◌≡◌, ℕ, zero, suc, ◌<◌, Bool, true, false, List, [], ◌∷◌, ◌++◌, length, map, refl, sym, ◌∙◌, ap, subst, inl, inr, ◌⊎◌, arith, Some, None, Option, option_map, position, find, Contains, cond}
use Rattle.std.specs.Prelude.{slice_index_or, nat_lt, ◌==◌}
use Rattle.std.specs.Option.{option_or}
use Rattle.std.specs.List.Sorted.{IsStrictlyIncreasing}
use Rattle.std.proofs.lemmas.Bool.{cases_lt, eqb-true}
use Rattle.std.proofs.lemmas.List.{get_or-map, length-map}
use Rattle.std.proofs.lemmas.List.Elements.{Contains-append_left, Contains-append_right}
use Rattle.std.proofs.lemmas.List.Kept.{AllPairs-from_increasing}
use Rattle.std.proofs.lemmas.List.Quantifiers.{position-Some}
use Rattle.std.proofs.lemmas.Option.{none-some, same_Some}
use Rattle.fab_model.specs.declared.rows.SwitchRow.{SwitchRow}
use Rattle.fab_model.specs.declared.rows.TerminalRow.{TerminalRow}
use Rattle.fab_model.specs.declared.rows.Place.{Place}
use Rattle.fab_model.specs.InOrder.{insert_in_order, in_order}
use Rattle.fab_model.specs.Topology.{Topology, switch_id, place_of, lids_of}
use Rattle.fab_model.specs.Connected.{IsConnectedTo}

Contains-later : {A : Type 0} (y : A) (xs : List A) (x : A) → Contains xs x → Contains (y ∷ xs) x
Contains-later y xs x has = (suc has.0, omega (arith, has.1), has.2)

inserted_here : {A : Type 0} (before : A → A → Bool) (x : A) (ys : List A) → Contains (insert_in_order before x ys) x
inserted_here before x [] = (0, omega arith, refl)
inserted_here before x (y ∷ ys) =
    elim (before y x) as (λ v. Contains (cond v (y ∷ insert_in_order before x ys) (x ∷ y ∷ ys)) x) [
      | true ↦ Contains-later y (insert_in_order before x ys) x (inserted_here before x ys)
      | false ↦ (0, omega arith, refl)
    ]

-- an element stands in front or in the rest
here_or_later : {A : Type 0} (y : A) (ys : List A) (a : A) → Contains (y ∷ ys) a → (y ≡ a) ⊎ Contains ys a
here_or_later y ys a has = go has.0 has.1 has.2
  where
    go : (k : ℕ) → k < length (y ∷ ys) → slice_index_or (y ∷ ys) k a ≡ a → (y ≡ a) ⊎ Contains ys a
    go zero low e = inl e
    go (suc k) low e = inr (k, omega arith, e)

inserted_still : {A : Type 0} (before : A → A → Bool) (x : A) (ys : List A) (a : A) → Contains ys a → Contains (insert_in_order before x ys) a
inserted_still before x [] a has = absurd (omega (arith, has.1))
inserted_still {A} before x (y ∷ ys) a has = go (λ h. inserted_still before x ys a h) (here_or_later y ys a has) (before y x)
  where
    go : (Contains ys a → Contains (insert_in_order before x ys) a) → (y ≡ a) ⊎ Contains ys a → (b : Bool) → Contains (cond b (y ∷ insert_in_order before x ys) (x ∷ y ∷ ys)) a
    go rest (inl e) true = (0, omega arith, e)
    go rest (inr h) true = Contains-later y (insert_in_order before x ys) a (rest h)
    go rest w false = Contains-later x (y ∷ ys) a has

ordered_has : {A : Type 0} (before : A → A → Bool) (xs : List A) (a : A) → Contains xs a → Contains (in_order before xs) a
ordered_has before [] a has = has
ordered_has before (x ∷ xs) a has = elim (here_or_later x xs a has) [
  | inl e ↦ subst (λ y. Contains (insert_in_order before x (in_order before xs)) y) e (inserted_here before x (in_order before xs))
  | inr h ↦ inserted_still before x (in_order before xs) a (ordered_has before xs a h)
]

Contains-map : {A : Type 0} (f : A → ℕ) (xs : List A) (k : ℕ) (d : A) → k < length xs → Contains (map f xs) (f (slice_index_or xs k d))
Contains-map f xs k d low = (k, omega (arith, length-map xs f), get_or-map f xs k d (f (slice_index_or xs k d)) low)

found_there : {A : Type 0} (p : A → Bool) (xs : List A) (x : A) → find p xs ≡ Some x → Contains xs x × (p x ≡ true)
found_there p [] x e = absurd (none-some x e)
found_there {A} p (y ∷ ys) x e = go (λ h. found_there p ys x h) (p y) refl e
  where
    go : (find p ys ≡ Some x → Contains ys x × (p x ≡ true)) → (b : Bool) → p y ≡ b → cond b (Some y) (find p ys) ≡ Some x → Contains (y ∷ ys) x × (p x ≡ true)
    go rest true is h = ((0, omega arith, same_Some y x h), ap p (sym (same_Some y x h)) ∙ is)
    go rest false is h = let r : Contains ys x × (p x ≡ true) = rest h in (Contains-later y ys x r.0, r.1)

module _ (t : Topology) (lid : ℕ) where
  abbrev of_switches : List ℕ
  of_switches = map (λ (row : SwitchRow). row.lid.0) t.switches

  abbrev of_terminals : List ℕ
  of_terminals = map (λ (row : TerminalRow). row.lid.0) t.terminals

  in_either : (o : Option ℕ) (p : Option TerminalRow) (place : Place) → position (λ (row : SwitchRow). row.lid.0 == lid) t.switches ≡ o → find (λ (row : TerminalRow). row.lid.0 == lid) t.terminals ≡ p →
      option_or (option_map (λ number. record { switch = switch_id number; port = 0 }) o) (option_map (λ (row : TerminalRow). record { switch = row.switch; port = row.port }) p) ≡ Some place →
      Contains (of_switches ++ of_terminals) lid
  in_either (Some n) p place a b e =
      let d : SwitchRow = record { guid = 0; lid = record { 0 = 0 }; ports = 0; desc = [] } in
      let found : (n < length t.switches) × (((slice_index_or t.switches n d).lid.0 == lid) ≡ true) × ((k : ℕ) → k < n → ((slice_index_or t.switches k d).lid.0 == lid) ≡ false) =
      position-Some (λ (row : SwitchRow). row.lid.0 == lid) t.switches n d a in
      Contains-append_left of_switches of_terminals lid (subst (λ x. Contains of_switches x) (eqb-true _ lid found.1) (Contains-map (λ (row : SwitchRow). row.lid.0) t.switches n d found.0))
  in_either None (Some row) place a b e =
      let found : Contains t.terminals row × ((row.lid.0 == lid) ≡ true) = found_there (λ (r : TerminalRow). r.lid.0 == lid) t.terminals row b in
      Contains-append_right of_switches of_terminals lid
      (subst (λ x. Contains of_terminals x) (ap (λ (r : TerminalRow). r.lid.0) found.0.2 ∙ eqb-true _ lid found.1) (Contains-map (λ (r : TerminalRow). r.lid.0) t.terminals found.0.0 row found.0.1))
  in_either None None place a b e = absurd (none-some place e)

  -- a LID that has a place is in use
  pub lid_in_use : (place : Place) → place_of t lid ≡ Some place → Contains (lids_of t) lid
  lid_in_use place e = ordered_has nat_lt (of_switches ++ of_terminals) lid (in_either _ _ place refl refl e)

pub connected_in_use : (t : Topology) (s lid : ℕ) → IsConnectedTo t s lid → Contains (lids_of t) lid
connected_in_use t s lid connected = lid_in_use t lid connected.0 connected.1

-- of two elements of an ascending list the lesser one stands first
pub lesser_first : (xs : List ℕ) (i m : ℕ) → IsStrictlyIncreasing xs → (has : Contains xs m) → i < length xs → m < slice_index_or xs i m → has.0 < i
lesser_first xs i m rises has low less = elim (cases_lt has.0 i) [
  | inl h ↦ h
  | inr h ↦ elim (cases_lt i has.0) [
    | inl more ↦ absurd (omega (arith, AllPairs-from_increasing xs rises i has.0 m more has.1, has.2))
    | inr same ↦ (let e : i ≡ has.0 = omega arith in absurd (omega (arith, ap (λ k. slice_index_or xs k m) e, has.2)))
  ]
]
