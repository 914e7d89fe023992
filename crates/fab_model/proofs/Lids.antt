-- The LIDs that have a place are those in use, in order.
use Rattle.std.proofs.Common.{◌≡◌, ◌≢◌, ℕ, zero, suc, ◌+◌, ◌<◌, ◌≤◌, Bool, true, false, ◌||◌, cond, eqb, ltb, List, [], ◌∷◌, ◌++◌, length, map, Option, Some, None, inl, inr, refl, sym, ap, ◌∙◌, arith}
use Rattle.std.specs.Prelude.{All, AllPairs, filter, find, position, is_some, option_map}
use Rattle.std.specs.List.{list_any, position_or_len, range_with_len}
use Rattle.std.specs.Option.{option_or}
use Rattle.std.proofs.lemmas.Bool.{cases_Bool, cases_eq, ne_eqb, eq-eqb, lt-ltb, le-ltb}
use Rattle.std.proofs.lemmas.Bool.Decides.{nat_tests}
use Rattle.std.proofs.lemmas.List.FromFn.{length-range_with_len, get_or-range_with_len}
use Rattle.std.proofs.lemmas.List.Elements.{All-head, All-tail, All-append, All-map, All-weaker}
use Rattle.std.proofs.lemmas.List.Folds.{list_any-append, list_any_none}
use Rattle.fab_model.specs.declared.rows.SwitchRow.{SwitchRow}
use Rattle.fab_model.specs.declared.rows.TerminalRow.{TerminalRow}
use Rattle.fab_model.specs.declared.rows.Place.{Place}
use Rattle.fab_model.specs.InOrder.{insert_in_order, in_order}
use Rattle.fab_model.specs.Topology.{Topology, lids_of, switch_place, terminal_place, place_of}
use Rattle.fab_model.specs.WellFormed.{IsUnicast, IsWellFormed}
use Rattle.fab_model.specs.Indexed.{only, AreByLid, has_place}

-- two tests that agree at each element keep the same elements
filter_agree_at : {X : Type 0} (p q : X → Bool) (xs : List X) → All (λ x. p x ≡ q x) xs → filter p xs ≡ filter q xs
filter_agree_at p q [] agree = refl
filter_agree_at p q (x ∷ xs) agree =
    let here : p x ≡ q x = All-head (λ x. p x ≡ q x) x xs agree in
    let rest = filter_agree_at p q xs (All-tail (λ x. p x ≡ q x) x xs agree) in
    rw (here, rest)

All-range : (P : ℕ → Type 0) (a n : ℕ) → ((z : ℕ) → a ≤ z → z < a + n → P z) → All P (range_with_len a n)
All-range P a n each = λ k d h.
    let small : k < n = omega (arith, h, length-range_with_len a n) in
    rw (get_or-range_with_len a n k d small) (each (a + k) (omega arith) (omega arith))

-- ---- a number is put in its place among those of a range that pass

insert_before : (x : ℕ) (p : ℕ → Bool) (b n : ℕ) → x < b → insert_in_order ltb x (filter p (range_with_len b n)) ≡ x ∷ filter p (range_with_len b n)
insert_before x p b zero h = refl
insert_before x p b (suc n) h =
    elim (cases_Bool (p b)) [
      | inl kept ↦ rw (kept, le-ltb b x (omega arith))
      | inr left_out ↦ rw left_out (insert_before x p (b + 1) n (omega arith))
    ]

insert_among : (x : ℕ) (p : ℕ → Bool) → p x ≡ false → (a n : ℕ) → a ≤ x → x < a + n → insert_in_order ltb x (filter p (range_with_len a n)) ≡ filter (λ z. eqb x z || p z) (range_with_len a n)
insert_among x p new a zero low high = absurd (omega arith)
insert_among x p new a (suc n) low high =
    let rest = range_with_len (a + 1) n in
    elim (cases_eq x a) [
      | inl same ↦
          let new_here : p a ≡ false = rw (← same) new in
          let here : eqb x a ≡ true = eq-eqb x a same in
          let past : filter (λ z. eqb x z || p z) rest ≡ filter p rest =
          filter_agree_at (λ z. eqb x z || p z) p rest (All-range (λ z. (eqb x z || p z) ≡ p z) (a + 1) n (λ z above below. rw (ne_eqb x z (λ e. omega (arith, e))))) in
          rw (new_here, here, past) (insert_before x p (a + 1) n (omega arith) ∙ ap (λ y. y ∷ filter p rest) same)
      | inr other ↦
          let more = insert_among x p new (a + 1) n (omega (arith, other)) (omega arith) in
          let not_here : eqb x a ≡ false = ne_eqb x a other in
          elim (cases_Bool (p a)) [
            | inl kept ↦ rw (kept, not_here, lt-ltb a x (omega (arith, other)), more)
            | inr left_out ↦ rw (left_out, not_here) more
          ]
    ]

-- ---- distinct numbers in order

abbrev Distinct : List ℕ → Type 0
Distinct [] = Unit {0}
Distinct (x ∷ xs) = All (λ y. x ≢ y) xs × Distinct xs

-- whether a number is one of the list
abbrev is_among : List ℕ → ℕ → Bool
is_among xs z = list_any (λ x. eqb x z) xs

filter_nothing : (xs : List ℕ) → filter (is_among []) xs ≡ []
filter_nothing [] = refl
filter_nothing (x ∷ xs) = filter_nothing xs

in_order_is_filter : (xs : List ℕ) (n : ℕ) → Distinct xs → All (λ x. x < n) xs → in_order ltb xs ≡ filter (is_among xs) (range_with_len 0 n)
in_order_is_filter [] n apart below = sym (filter_nothing (range_with_len 0 n))
in_order_is_filter (x ∷ xs) n apart below =
    let rest = in_order_is_filter xs n apart.1 (All-tail (λ x. x < n) x xs below) in
    let new : is_among xs x ≡ false = list_any_none (λ y. eqb y x) xs (All-weaker (λ y. x ≢ y) (λ y. eqb y x ≡ false) (λ y other. ne_eqb y x (λ e. other (sym e))) xs apart.0) in
    ap (insert_in_order ltb x) rest ∙ insert_among x (is_among xs) new 0 n (omega arith) (omega (arith, All-head (λ x. x < n) x xs below))

-- ---- the LIDs of a fabric

AllPairs-head : {X : Type 0} (R : X → X → Type 0) (x : X) (xs : List X) → AllPairs R (x ∷ xs) → All (R x) xs
AllPairs-head R x xs pairs = λ k d h. pairs 0 (suc k) d (omega arith) (omega arith)

AllPairs-tail : {X : Type 0} (R : X → X → Type 0) (x : X) (xs : List X) → AllPairs R (x ∷ xs) → AllPairs R xs
AllPairs-tail R x xs pairs = λ i j d lt h. pairs (suc i) (suc j) d (omega arith) (omega arith)

distinct_terminals : (terminals : List TerminalRow) → AllPairs (λ first second. first.lid.0 < second.lid.0) terminals → Distinct (map (λ row. row.lid.0) terminals)
distinct_terminals [] rise = tt
distinct_terminals (t ∷ ts) rise =
    let R = λ (first second : TerminalRow). first.lid.0 < second.lid.0 in
    (All-map (λ y. t.lid.0 ≢ y) (λ (row : TerminalRow). row.lid.0) ts (All-weaker (R t) (λ (row : TerminalRow). t.lid.0 ≢ row.lid.0) (λ row lt e. omega (arith, lt, e)) ts (AllPairs-head R t ts rise)), distinct_terminals ts (AllPairs-tail R t ts rise))

distinct_lids : (switches : List SwitchRow) (terminals : List TerminalRow) → AllPairs (λ first second. first.lid.0 ≢ second.lid.0) switches → AllPairs (λ first second. first.lid.0 < second.lid.0) terminals → All (λ switch. All (λ terminal. switch.lid.0 ≢ terminal.lid.0) terminals) switches → Distinct (map (λ row. row.lid.0) switches ++ map (λ row. row.lid.0) terminals)
distinct_lids [] terminals differ rise others = distinct_terminals terminals rise
distinct_lids (s ∷ ss) terminals differ rise others =
    let R = λ (first second : SwitchRow). first.lid.0 ≢ second.lid.0 in
    let IsOther = λ (switch : SwitchRow). All (λ (terminal : TerminalRow). switch.lid.0 ≢ terminal.lid.0) terminals in (
      All-append (λ y. s.lid.0 ≢ y) (map (λ (row : SwitchRow). row.lid.0) ss) (map (λ (row : TerminalRow). row.lid.0) terminals)
          (All-map (λ y. s.lid.0 ≢ y) (λ (row : SwitchRow). row.lid.0) ss (AllPairs-head R s ss differ))
          (All-map (λ y. s.lid.0 ≢ y) (λ (row : TerminalRow). row.lid.0) terminals (All-head IsOther s ss others)),
      distinct_lids ss terminals (AllPairs-tail R s ss differ) rise (All-tail IsOther s ss others),
    )

ltb-suc : (a b : ℕ) → ltb (1 + a) (suc b) ≡ ltb a b
ltb-suc a b = grind (arith, nat_tests)

within_where_any : {X : Type 0} (p : X → Bool) (xs : List X) → ltb (position_or_len p xs) (length xs) ≡ list_any p xs
within_where_any p [] = refl
within_where_any p (x ∷ xs) =
    elim (cases_Bool (p x)) [
      | inl passes ↦ rw passes (lt-ltb 0 (suc (length xs)) (omega arith))
      | inr fails ↦ rw fails (ltb-suc (position_or_len p xs) (length xs) ∙ within_where_any p xs)
    ]

is_some_cond : {X : Type 0} (b : Bool) (x : X) → is_some (cond b (Some x) None) ≡ b
is_some_cond true x = refl
is_some_cond false x = refl

pub is_some_position : {X : Type 0} (p : X → Bool) (xs : List X) → is_some (position p xs) ≡ list_any p xs
is_some_position p xs = is_some_cond (ltb (position_or_len p xs) (length xs)) (position_or_len p xs) ∙ within_where_any p xs

is_some_find : {X : Type 0} (p : X → Bool) (xs : List X) → is_some (find p xs) ≡ list_any p xs
is_some_find p [] = refl
is_some_find p (x ∷ xs) =
    elim (cases_Bool (p x)) [
      | inl passes ↦ rw passes
      | inr fails ↦ rw fails (is_some_find p xs)
    ]

list_any-map : {X Y : Type 0} (p : Y → Bool) (f : X → Y) (xs : List X) → list_any p (map f xs) ≡ list_any (λ x. p (f x)) xs
list_any-map p f [] = refl
list_any-map p f (x ∷ xs) = ap (λ b. p (f x) || b) (list_any-map p f xs)

is_some_map : {X Y : Type 0} (f : X → Y) (o : Option X) → is_some (option_map f o) ≡ is_some o
is_some_map f None = refl
is_some_map f (Some x) = refl

is_some_or : {X : Type 0} (o r : Option X) → is_some (option_or o r) ≡ (is_some o || is_some r)
is_some_or None r = refl
is_some_or (Some x) r = refl

-- a LID has a place where it is in use
placed : (fabric : Topology) (lid : ℕ) → is_some (place_of fabric lid) ≡ is_among (map (λ row. row.lid.0) fabric.switches ++ map (λ row. row.lid.0) fabric.terminals) lid
placed fabric lid =
    let of_switch = λ (row : SwitchRow). eqb row.lid.0 lid in
    let of_terminal = λ (row : TerminalRow). eqb row.lid.0 lid in
    let switches = map (λ (row : SwitchRow). row.lid.0) fabric.switches in
    let terminals = map (λ (row : TerminalRow). row.lid.0) fabric.terminals in
    let first : is_some (switch_place fabric lid) ≡ list_any of_switch fabric.switches = is_some_map _ _ ∙ is_some_position of_switch fabric.switches in
    let second : is_some (terminal_place fabric lid) ≡ list_any of_terminal fabric.terminals = is_some_map _ _ ∙ is_some_find of_terminal fabric.terminals in
    let whole : is_among (switches ++ terminals) lid ≡ (list_any of_switch fabric.switches || list_any of_terminal fabric.terminals) =
    list_any-append (λ x. eqb x lid) switches terminals
    ∙ ap (λ b. b || list_any (λ x. eqb x lid) terminals) (list_any-map (λ x. eqb x lid) (λ (row : SwitchRow). row.lid.0) fabric.switches)
    ∙ ap (λ b. list_any of_switch fabric.switches || b) (list_any-map (λ x. eqb x lid) (λ (row : TerminalRow). row.lid.0) fabric.terminals) in
    is_some_or (switch_place fabric lid) (terminal_place fabric lid)
    ∙ ap (λ b. b || is_some (terminal_place fabric lid)) first
    ∙ ap (λ b. list_any of_switch fabric.switches || b) second
    ∙ sym whole

pub lids_from_places : (fabric : Topology) (places : List (Option Place)) → IsWellFormed fabric → AreByLid (only fabric.switches [] fabric.terminals) places → filter (has_place places) (range_with_len 0 (length places)) ≡ lids_of fabric
lids_from_places fabric places are by_lid =
    let switches = map (λ (row : SwitchRow). row.lid.0) fabric.switches in
    let terminals = map (λ (row : TerminalRow). row.lid.0) fabric.terminals in
    let lids = switches ++ terminals in
    let n = length places in
    let small : All (λ x. x < n) lids =
    All-append (λ x. x < n) switches terminals
    (All-map (λ x. x < n) (λ (row : SwitchRow). row.lid.0) fabric.switches (All-weaker (λ (row : SwitchRow). IsUnicast row.lid.0) (λ (row : SwitchRow). row.lid.0 < n) (λ row u. omega (arith, u.1, by_lid.count)) fabric.switches are.switch_lids))
    (All-map (λ x. x < n) (λ (row : TerminalRow). row.lid.0) fabric.terminals (All-weaker (λ (row : TerminalRow). IsUnicast row.lid.0) (λ (row : TerminalRow). row.lid.0 < n) (λ row u. omega (arith, u.1, by_lid.count)) fabric.terminals are.terminal_lids)) in
    let same : filter (has_place places) (range_with_len 0 n) ≡ filter (is_among lids) (range_with_len 0 n) =
    filter_agree_at (has_place places) (is_among lids) (range_with_len 0 n)
    (All-range (λ z. has_place places z ≡ is_among lids z) 0 n (λ z low high. ap is_some (by_lid.each z (omega (arith, by_lid.count))) ∙ placed fabric z)) in
    same ∙ sym (in_order_is_filter lids n (distinct_lids fabric.switches fabric.terminals are.switch_lids_differ are.terminal_lids_rise are.other_lids) small)
