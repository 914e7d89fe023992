-- The LIDs in use ascend, and there are no more than a fabric may have.
use Rattle.std.proofs.Common.{◌≡◌, ◌≢◌, ℕ, zero, suc, ◌+◌, ◌-◌, ◌<◌, ◌≤◌, ◌^◌, Bool, true, false, List, [], ◌∷◌, ◌++◌, length, map, get_or, cond, refl, sym, ◌∙◌, arith, ◌⊎◌, inl, inr, add-one, take, ap, Option, Some, None}
use Rattle.std.specs.Prelude.{nat_lt, All, slice_get, option_map, Contains}
use Rattle.std.specs.List.Sorted.{IsStrictlyIncreasing}
use Rattle.std.proofs.lemmas.Bool.{cases_lt, cases_order, ltb-true, ltb-false}
use Rattle.std.proofs.lemmas.List.{take_more, get_or-map, get_or-append_right, get_or_append_left, length-map, length-append}
use Rattle.std.proofs.lemmas.List.Elements.{All-cons, All-head, All-tail, All-append, All-map}
use Rattle.std.proofs.lemmas.Option.{slice_get_within, get_or_from_slice_get, slice_get-get_or}
use Rattle.fab_tables.proofs.Rows.Cells.{none_some}
use Rattle.fab_model.specs.declared.rows.Lid.{Lid}
use Rattle.fab_model.specs.declared.rows.SwitchRow.{SwitchRow}
use Rattle.fab_model.specs.declared.rows.TerminalRow.{TerminalRow}
use Rattle.fab_model.specs.InOrder.{insert_in_order, in_order}
use Rattle.fab_model.specs.Topology.{Topology, lids_of, lid_id}
use Rattle.fab_model.specs.WellFormed.{IsFabric}
use Rattle.fab_model.proofs.Order.{lids_are_counted}
use Rattle.fab_tables.specs.Columns.{AreLids}

-- x is below the first of the list
abbrev Below : ℕ → List ℕ → Type 0
Below x [] = Unit {0}
Below x (y ∷ ys) = x < y

abbrev Rise : List ℕ → Type 0
Rise [] = Unit {0}
Rise (x ∷ xs) = Below x xs × Rise xs

-- x is not in the list
abbrev Lacks : ℕ → List ℕ → Type 0
Lacks x [] = Unit {0}
Lacks x (y ∷ ys) = (x ≢ y) × Lacks x ys

-- no element stands twice
abbrev Differ : List ℕ → Type 0
Differ [] = Unit {0}
Differ (x ∷ xs) = Lacks x xs × Differ xs

below_inserted : (x y : ℕ) (ys : List ℕ) → y < x → Below y ys → Below y (insert_in_order nat_lt x ys)
below_inserted x y [] h b = h
below_inserted x y (z ∷ zs) h b = elim (nat_lt z x) as (λ v. Below y (cond v (z ∷ insert_in_order nat_lt x zs) (x ∷ z ∷ zs))) [ true ↦ b | false ↦ h ]

below_from : (x y : ℕ) → x ≢ y → x ≤ y → x < y
below_from x y n h = elim (cases_order x y) [ inl a ↦ absurd (n a) | inr (inl a) ↦ a | inr (inr a) ↦ omega arith ]

rise_at : (x y : ℕ) (ys : List ℕ) (b : Bool) → nat_lt y x ≡ b → x ≢ y → Rise (y ∷ ys) → Rise (insert_in_order nat_lt x ys) → Rise (cond b (y ∷ insert_in_order nat_lt x ys) (x ∷ y ∷ ys))
rise_at x y ys true e n r rest = (below_inserted x y ys (ltb-true y x e) r.0, rest)
rise_at x y ys false e n r rest = (below_from x y n (ltb-false y x e), r)

inserted_rise : (x : ℕ) (ys : List ℕ) → Lacks x ys → Rise ys → Rise (insert_in_order nat_lt x ys)
inserted_rise x [] l r = (tt, tt)
inserted_rise x (y ∷ ys) l r = rise_at x y ys (nat_lt y x) refl l.0 r (inserted_rise x ys l.1 r.1)

inserted_lack : (n x : ℕ) (ys : List ℕ) → n ≢ x → Lacks n ys → Lacks n (insert_in_order nat_lt x ys)
inserted_lack n x [] h l = (h, tt)
inserted_lack n x (y ∷ ys) h l =
    elim (nat_lt y x) as (λ v. Lacks n (cond v (y ∷ insert_in_order nat_lt x ys) (x ∷ y ∷ ys))) [ true ↦ (l.0, inserted_lack n x ys h l.1) | false ↦ (h, l) ]

ordered_lack : (n : ℕ) (xs : List ℕ) → Lacks n xs → Lacks n (in_order nat_lt xs)
ordered_lack n [] l = tt
ordered_lack n (x ∷ xs) l = inserted_lack n x (in_order nat_lt xs) l.0 (ordered_lack n xs l.1)

ordered_rise : (xs : List ℕ) → Differ xs → Rise (in_order nat_lt xs)
ordered_rise [] d = tt
ordered_rise (x ∷ xs) d = inserted_rise x (in_order nat_lt xs) (ordered_lack x xs d.0) (ordered_rise xs d.1)

inserted_all : (P : ℕ → Type 0) (x : ℕ) (ys : List ℕ) → P x → All P ys → All P (insert_in_order nat_lt x ys)
inserted_all P x [] p a = All-cons P x [] p a
inserted_all P x (y ∷ ys) p a =
    elim (nat_lt y x) as (λ v. All P (cond v (y ∷ insert_in_order nat_lt x ys) (x ∷ y ∷ ys))) [
      | true ↦ All-cons P y (insert_in_order nat_lt x ys) (All-head P y ys a) (inserted_all P x ys p (All-tail P y ys a))
      | false ↦ All-cons P x (y ∷ ys) p a
    ]

ordered_all : (P : ℕ → Type 0) (xs : List ℕ) → All P xs → All P (in_order nat_lt xs)
ordered_all P [] a = a
ordered_all P (x ∷ xs) a = inserted_all P x (in_order nat_lt xs) (All-head P x xs a) (ordered_all P xs (All-tail P x xs a))

rise_step : (xs : List ℕ) → Rise xs → (k : ℕ) → suc k < length xs → get_or xs k 0 < get_or xs (suc k) 0
rise_step [] r k h = omega arith
rise_step (x ∷ []) r k h = omega arith
rise_step (x ∷ y ∷ ys) r zero h = r.0
rise_step (x ∷ y ∷ ys) r (suc k) h = rise_step (y ∷ ys) r.1 k (omega arith)

increasing_from_rise : (xs : List ℕ) → Rise xs → IsStrictlyIncreasing xs
increasing_from_rise xs r k h = rw add-one (rise_step xs r k (omega arith))

lacks_from : (x : ℕ) (ys : List ℕ) → ((k : ℕ) → k < length ys → x ≢ get_or ys k 0) → Lacks x ys
lacks_from x [] h = tt
lacks_from x (y ∷ ys) h = (h 0 (omega arith), lacks_from x ys (λ k l. h (suc k) (omega arith)))

differ_from : (xs : List ℕ) → ((i j : ℕ) → i < j → j < length xs → get_or xs i 0 ≢ get_or xs j 0) → Differ xs
differ_from [] h = tt
differ_from (x ∷ xs) h = (lacks_from x xs (λ k l. h 0 (suc k) (omega arith) (omega arith)), differ_from xs (λ i j a b. h (suc i) (suc j) (omega arith) (omega arith)))

module _ (xs ys : List ℕ) (left : (i j : ℕ) → i < j → j < length xs → get_or xs i 0 ≢ get_or xs j 0) (right : (i j : ℕ) → i < j → j < length ys → get_or ys i 0 ≢ get_or ys j 0)
    (across : (i j : ℕ) → i < length xs → j < length ys → get_or xs i 0 ≢ get_or ys j 0) where
  at_left : (i : ℕ) → i < length xs → get_or (xs ++ ys) i 0 ≡ get_or xs i 0
  at_left i h = get_or_append_left xs ys 0 i h

  at_right : (i : ℕ) → length xs ≤ i → get_or (xs ++ ys) i 0 ≡ get_or ys (i - length xs) 0
  at_right i h = get_or-append_right xs ys (length xs) i 0 refl h

  both_differ : (i j : ℕ) → i < j → j < length (xs ++ ys) → get_or (xs ++ ys) i 0 ≢ get_or (xs ++ ys) j 0
  both_differ i j a b e = go (cases_lt i (length xs)) (cases_lt j (length xs))
    where
      long : length (xs ++ ys) ≡ length xs + length ys
      long = length-append xs ys

      go : (i < length xs) ⊎ (length xs ≤ i) → (j < length xs) ⊎ (length xs ≤ j) → ⊥
      go (inl x) (inl y) = left i j a y (sym (at_left i x) ∙ e ∙ at_left j y)
      go (inl x) (inr y) = across i (j - length xs) x (omega (arith, long)) (sym (at_left i x) ∙ e ∙ at_right j y)
      go (inr x) (inl y) = omega arith
      go (inr x) (inr y) = right (i - length xs) (j - length xs) (omega arith) (omega (arith, long)) (sym (at_right i x) ∙ e ∙ at_right j y)

module _ (t : Topology) (is : IsFabric t) where
  abbrev of_switches : List ℕ
  of_switches = map (λ (row : SwitchRow). row.lid.0) t.switches

  abbrev of_terminals : List ℕ
  of_terminals = map (λ (row : TerminalRow). row.lid.0) t.terminals

  switch_at : (d : SwitchRow) (i : ℕ) → i < length of_switches → get_or of_switches i 0 ≡ (get_or t.switches i d).lid.0
  switch_at d i h = get_or-map (λ (row : SwitchRow). row.lid.0) t.switches i d 0 (omega (arith, length-map t.switches (λ (row : SwitchRow). row.lid.0)))

  terminal_at : (d : TerminalRow) (i : ℕ) → i < length of_terminals → get_or of_terminals i 0 ≡ (get_or t.terminals i d).lid.0
  terminal_at d i h = get_or-map (λ (row : TerminalRow). row.lid.0) t.terminals i d 0 (omega (arith, length-map t.terminals (λ (row : TerminalRow). row.lid.0)))

  some_switch : SwitchRow
  some_switch = record { guid = 0; lid = record { 0 = 0 }; ports = 0; desc = [] }

  some_terminal : TerminalRow
  some_terminal = record { lid = record { 0 = 0 }; switch = record { 0 = 0 }; port = 0; adapter = 0; adapter_port = 0; port_guid = 0 }

  switches_differ : (i j : ℕ) → i < j → j < length of_switches → get_or of_switches i 0 ≢ get_or of_switches j 0
  switches_differ i j a b e = is.rows.switch_lids_differ i j some_switch a (omega (arith, length-map t.switches (λ (row : SwitchRow). row.lid.0))) (sym (switch_at some_switch i (omega arith)) ∙ e ∙ switch_at some_switch j b)

  terminals_differ : (i j : ℕ) → i < j → j < length of_terminals → get_or of_terminals i 0 ≢ get_or of_terminals j 0
  terminals_differ i j a b e =
      let up : (get_or t.terminals i some_terminal).lid.0 < (get_or t.terminals j some_terminal).lid.0
      = is.rows.terminal_lids_rise i j some_terminal a (omega (arith, length-map t.terminals (λ (row : TerminalRow). row.lid.0))) in
      omega (arith, terminal_at some_terminal i (omega arith), terminal_at some_terminal j b)

  kinds_differ : (i j : ℕ) → i < length of_switches → j < length of_terminals → get_or of_switches i 0 ≢ get_or of_terminals j 0
  kinds_differ i j a b e =
      is.rows.other_lids i some_switch (omega (arith, length-map t.switches (λ (row : SwitchRow). row.lid.0))) j some_terminal (omega (arith, length-map t.terminals (λ (row : TerminalRow). row.lid.0)))
      (sym (switch_at some_switch i a) ∙ e ∙ terminal_at some_terminal j b)

  pub lids_ascend : IsStrictlyIncreasing (lids_of t)
  lids_ascend = increasing_from_rise (lids_of t) (ordered_rise (of_switches ++ of_terminals)
      (differ_from (of_switches ++ of_terminals) (both_differ of_switches of_terminals switches_differ terminals_differ kinds_differ)))

  pub lids_fit : All (λ lid. lid < 2 ^ 16) (lids_of t)
  lids_fit = ordered_all (λ lid. lid < 2 ^ 16) (of_switches ++ of_terminals) (All-append (λ lid. lid < 2 ^ 16) of_switches of_terminals
      (All-map (λ lid. lid < 2 ^ 16) (λ (row : SwitchRow). row.lid.0) t.switches (λ k d h. omega (arith, (is.rows.switch_lids k d h).1)))
      (All-map (λ lid. lid < 2 ^ 16) (λ (row : TerminalRow). row.lid.0) t.terminals (λ k d h. omega (arith, (is.rows.terminal_lids k d h).1))))

  pub lids_are : AreLids (lids_of t)
  lids_are = record { ascending = lids_ascend; fit = lids_fit; few = omega (arith, lids_are_counted t, is.rows.lid_count) }

-- the LIDs are read one after the other
pub lid_read : (o : Option ℕ) (lid : Lid) → option_map lid_id o ≡ Some lid → o ≡ Some lid.0
lid_read None lid e = cc
lid_read (Some n) lid e = ap (λ r. option_map (λ (l : Lid). l.0) r) e

-- a LID at a place of the list is in use
pub lid_in_use : (t : Topology) (i : ℕ) (lid : Lid) → Some lid ≡ option_map lid_id (slice_get (lids_of t) i) → Contains (lids_of t) lid.0
lid_in_use t i lid e =
    let there : slice_get (lids_of t) i ≡ Some lid.0 = lid_read (slice_get (lids_of t) i) lid (sym e) in
    (i, slice_get_within (lids_of t) i lid.0 there, get_or_from_slice_get (lids_of t) i lid.0 lid.0 there)

pub no_lid_read : (o : Option ℕ) → option_map lid_id o ≡ None → o ≡ None
no_lid_read None e = refl
no_lid_read (Some n) e = cc

pub one_more_lid : (xs : List ℕ) (i : ℕ) (lid : Lid) → Some lid ≡ option_map lid_id (slice_get xs i) → take i xs ++ lid.0 ∷ [] ≡ take (i + 1) xs
one_more_lid xs i lid e =
    let there : slice_get xs i ≡ Some lid.0 = lid_read (slice_get xs i) lid (sym e) in
    let low : i < length xs = slice_get_within xs i lid.0 there in
    ap (λ n. take i xs ++ n ∷ []) (sym (get_or_from_slice_get xs i lid.0 0 there)) ∙ sym (take_more xs i 0 low)

pub no_more_lid : (xs : List ℕ) (i : ℕ) → None ≡ option_map lid_id (slice_get xs i) → length xs ≤ i
no_more_lid xs i e = elim (cases_lt i (length xs)) [ inl h ↦ absurd (none_some (get_or xs i 0) (sym (no_lid_read (slice_get xs i) (sym e)) ∙ slice_get-get_or xs i 0 h)) | inr h ↦ h ]
