-- Tables that a loop over rows fills.
use Rattle.std.proofs.Common.{◌≡◌, ◌≢◌, ℕ, zero, suc, ◌+◌, ◌-◌, ◌*◌, ◌<◌, ◌≤◌, Bool, true, false, not, ◌&&◌, cond, eqb, List, [], ◌∷◌, ◌++◌, length, take, get_or, set, replicate, Option, Some, None, inl, inr, refl, sym, ap, ◌∙◌, arith, add-zero, add-one, length-take, length-set}
use Rattle.std.specs.Prelude.{AllPairs, option_map, position, find, filter, count_by}
use Rattle.std.specs.List.{position_or_len, range_with_len, AllWithin}
use Rattle.std.specs.List.Sorted.{IsNonDecreasingBy}
use Rattle.std.specs.Option.{option_or}
use Rattle.std.proofs.lemmas.Bool.{cases_Bool, cases_eq, cases_lt, and_parts, and_cases, eq-eqb, ne_eqb, eqb-true, eqb-false, lt-ltb, false_from_ne_true}
use Rattle.std.proofs.lemmas.Bool.Decides.{nat_tests}
use Rattle.std.proofs.lemmas.List.{length-replicate, take_more, take_all, map-id, get_or-take, get_or-replicate, get_or-set_same, get_or-set_other, length_push}
use Rattle.std.proofs.lemmas.List.FromFn.{filter_of_map_range_with_len_more}
use Rattle.std.proofs.lemmas.List.Sums.{position_or_len_is, prefix_len-le-length, count_by_more_yes, count_by_more_no}
use Rattle.std.proofs.lemmas.List.Folds.{position_or_len_push, find-append}
use Rattle.fab_model.specs.declared.rows.SwitchRow.{SwitchRow}
use Rattle.fab_model.specs.declared.rows.ChannelRow.{ChannelRow}
use Rattle.fab_model.specs.declared.rows.TerminalRow.{TerminalRow}
use Rattle.fab_model.specs.declared.rows.Place.{Place}
use Rattle.fab_model.specs.Topology.{switch_id, terminal_place}
use Rattle.fab_model.specs.WellFormed.{GoesBefore}
use Rattle.fab_model.specs.Indexed.{only, IsByPort, AreByLid}

-- the first place that passes, in a list with one more element
pub position-push_no : {X : Type 0} (p : X → Bool) (xs : List X) (x : X) → p x ≡ false → position p (xs ++ x ∷ []) ≡ position p xs
position-push_no p xs x fails = grind (arith, position_or_len_push p xs x, length_push xs x, prefix_len-le-length (λ x. not (p x)) xs, nat_tests)

pub position-more_no : {X : Type 0} (p : X → Bool) (xs : List X) (i : ℕ) (d : X) → i < length xs → p (get_or xs i d) ≡ false → position p (take (i + 1) xs) ≡ position p (take i xs)
position-more_no p xs i d h fails = ap (position p) (take_more xs i d h) ∙ position-push_no p (take i xs) (get_or xs i d) fails

pub position-more_yes : {X : Type 0} (p : X → Bool) (xs : List X) (i : ℕ) (d : X) → i < length xs → p (get_or xs i d) ≡ true → ((k : ℕ) → k < i → p (get_or xs k d) ≡ false) → position p (take (i + 1) xs) ≡ Some i
position-more_yes p xs i d h passes before =
    let long : length (take (i + 1) xs) ≡ i + 1 = omega (arith, length-take (i + 1) xs) in
    let at : position_or_len p (take (i + 1) xs) ≡ i =
    position_or_len_is p (take (i + 1) xs) i d (omega arith)
    (λ k lt. rw (get_or-take (i + 1) xs k d (omega arith)) (before k lt))
    (λ _. rw (get_or-take (i + 1) xs i d (omega arith)) passes) in
    rw (at, long, lt-ltb i (i + 1) (omega arith))

-- the test whether a row stands at a port
abbrev pub stands : {X : Type 0} → (X → ℕ) → (X → ℕ) → ℕ → ℕ → X → Bool
stands switch port s p x = eqb (switch x) s && eqb (port x) p

-- A row is written at its port.
pub is_by_port_more : {X Y : Type 0} (switch port : X → ℕ) (id : ℕ → Y) (switches : ℕ) (xs : List X) (i : ℕ) (d : X) (cells : List (Option Y)) → i < length xs → switch (get_or xs i d) < switches → port (get_or xs i d) < 256 → AllPairs (λ first second. switch first ≡ switch second → port first ≢ port second) xs → IsByPort (λ s p. option_map id (position (stands switch port s p) (take i xs))) switches cells → IsByPort (λ s p. option_map id (position (stands switch port s p) (take (i + 1) xs))) switches (set cells (264 * switch (get_or xs i d) + port (get_or xs i d)) (Some (id i)))
is_by_port_more {X} {Y} switch port id switches xs i d cells h low small apart are =
    let x = get_or xs i d in
    let cell = 264 * switch x + port x in
    record {
      count = length-set cells cell (Some (id i)) ∙ are.count;
      each = λ s p hs hp.
          elim (cases_Bool (stands switch port s p x)) [
            | inl passes ↦
                let both = and_parts (eqb (switch x) s) (eqb (port x) p) passes in
                let at_switch = eqb-true (switch x) s both.0 in
                let at_port = eqb-true (port x) p both.1 in
                let here : 264 * s + p ≡ cell = omega arith in
                let first : position (stands switch port s p) (take (i + 1) xs) ≡ Some i =
                position-more_yes (stands switch port s p) xs i d h passes
                (λ k lt. false_from_ne_true (stands switch port s p (get_or xs k d)) (λ t.
                let parts = and_parts (eqb (switch (get_or xs k d)) s) (eqb (port (get_or xs k d)) p) t in
                apart k i d lt h (eqb-true (switch (get_or xs k d)) s parts.0 ∙ sym at_switch) (eqb-true (port (get_or xs k d)) p parts.1 ∙ sym at_port))) in
                rw (here, first) (get_or-set_same cells cell (Some (id i)) None (omega (arith, are.count)))
            | inr fails ↦
                let other : 264 * s + p ≢ cell = λ same.
                elim (and_cases (eqb (switch x) s) (eqb (port x) p) fails) [
                  | inl a ↦ eqb-false (switch x) s a (omega (arith, same))
                  | inr b ↦ eqb-false (port x) p b (omega (arith, same))
                ] in
                rw (position-more_no (stands switch port s p) xs i d h fails) (get_or-set_other cells cell (264 * s + p) (Some (id i)) None other ∙ are.each s p hs hp)
          ];
    }

-- Channels in order leave by ports apart.
pub leave_apart : (rows : List ChannelRow) → AllPairs GoesBefore rows → AllPairs (λ first second. first.tail.0 ≡ second.tail.0 → first.port ≢ second.port) rows
leave_apart rows rise = λ i j d lt h same_tail same_port.
    elim (rise i j d lt h) [
      | inl below ↦ omega (arith, below, same_tail)
      | inr beside ↦ omega (arith, beside.1, same_port)
    ]

-- ---- places by LID

-- the first element that passes, in a list with one more
find-more_no : {X : Type 0} (p : X → Bool) (xs : List X) (i : ℕ) (d : X) → i < length xs → p (get_or xs i d) ≡ false → find p (take (i + 1) xs) ≡ find p (take i xs)
find-more_no {X} p xs i d h fails =
    let none : find p (get_or xs i d ∷ []) ≡ None = rw fails in
    let whole : (o : Option X) → option_or o None ≡ o = λ o. elim o as (λ (o : Option X). option_or o None ≡ o) [ None ↦ refl | Some x ↦ refl ] in
    ap (find p) (take_more xs i d h) ∙ find-append p (take i xs) (get_or xs i d ∷ []) ∙ ap (option_or (find p (take i xs))) none ∙ whole (find p (take i xs))

find_none : {X : Type 0} (p : X → Bool) (xs : List X) (i : ℕ) (d : X) → i < length xs → ((k : ℕ) → k < i → p (get_or xs k d) ≡ false) → find p (take i xs) ≡ None
find_none p xs zero d h before = refl
find_none p xs (suc i) d h before =
    rw (← add-one i) (find-more_no p xs i d (omega arith) (before i (omega arith)) ∙ find_none p xs i d (omega arith) (λ k lt. before k (omega arith)))

find-more_yes : {X : Type 0} (p : X → Bool) (xs : List X) (i : ℕ) (d : X) → i < length xs → p (get_or xs i d) ≡ true → ((k : ℕ) → k < i → p (get_or xs k d) ≡ false) → find p (take (i + 1) xs) ≡ Some (get_or xs i d)
find-more_yes {X} p xs i d h passes before =
    let last : find p (get_or xs i d ∷ []) ≡ Some (get_or xs i d) = rw passes in
    ap (find p) (take_more xs i d h) ∙ find-append p (take i xs) (get_or xs i d ∷ []) ∙ ap (option_or (find p (take i xs))) last ∙ ap (λ (o : Option X). option_or o (Some (get_or xs i d))) (find_none p xs i d h before)

-- only `None` is a clone of `None`
pub clone_of_none : {X : Type 0} (Is : Option X → Type 0) → ((x : X) → Is (Some x) → ⊥) → (y : Option X) → Is y → y ≡ None
clone_of_none Is other None h = refl
clone_of_none Is other (Some x) h = absurd (other x h)

pub are_by_lid_none : (places : List (Option Place)) (n : ℕ) → n ≡ 65536 → places ≡ replicate n None → AreByLid (only [] [] []) places
are_by_lid_none places n count none = record {
  count = ap length none ∙ length-replicate n None ∙ count;
  each = λ lid h. ap (λ (cells : List (Option Place)). get_or cells lid None) none ∙ get_or-replicate n lid None None (omega arith);
}

-- The place of a terminal is written at its LID.
pub are_by_lid_more_terminal : (rows : List TerminalRow) (i : ℕ) (d : TerminalRow) (places : List (Option Place)) → i < length rows → (get_or rows i d).lid.0 < 65536 → AllPairs (λ first second. first.lid.0 < second.lid.0) rows → AreByLid (only [] [] (take i rows)) places → AreByLid (only [] [] (take (i + 1) rows)) (set places (get_or rows i d).lid.0 (Some (record { switch = (get_or rows i d).switch; port = (get_or rows i d).port })))
are_by_lid_more_terminal rows i d places h small rise are =
    let at = (get_or rows i d).lid.0 in
    let here : Option Place = Some (record { switch = (get_or rows i d).switch; port = (get_or rows i d).port }) in
    let has = λ (lid : ℕ) (row : TerminalRow). eqb row.lid.0 lid in
    let place = λ (row : TerminalRow). let p : Place = record { switch = row.switch; port = row.port } in p in
    record {
      count = length-set places at here ∙ are.count;
      each = λ lid fits.
          elim (cases_eq lid at) [
            | inl same ↦
                let first : find (has at) (take (i + 1) rows) ≡ Some (get_or rows i d) =
                find-more_yes (has at) rows i d h (eq-eqb at at refl) (λ k lt. ne_eqb (get_or rows k d).lid.0 at (λ e. omega (arith, e, rise k i d lt h))) in
                rw same (get_or-set_same places at here None (omega (arith, are.count)) ∙ sym (ap (option_map place) first))
            | inr other ↦
                let rest = find-more_no (has lid) rows i d h (ne_eqb at lid (λ e. other (sym e))) in
                get_or-set_other places at lid here None other ∙ are.each lid fits ∙ sym (ap (option_map place) rest)
          ];
    }

-- The place of a switch is written at its LID.
pub are_by_lid_more_switch : (switches : List SwitchRow) (terminals : List TerminalRow) (i : ℕ) (row : SwitchRow) (places : List (Option Place)) → i < length switches → row ≡ get_or switches i row → row.lid.0 < 65536 → AllPairs (λ first second. first.lid.0 ≢ second.lid.0) switches → AreByLid (only (take i switches) [] terminals) places → AreByLid (only (take (i + 1) switches) [] terminals) (set places row.lid.0 (Some (record { switch = switch_id i; port = 0 })))
are_by_lid_more_switch switches terminals i row places h is small differ are =
    let at = row.lid.0 in
    let here : Option Place = Some (record { switch = switch_id i; port = 0 }) in
    let has = λ (lid : ℕ) (row : SwitchRow). eqb row.lid.0 lid in
    let place = λ (number : ℕ). let p : Place = record { switch = switch_id number; port = 0 } in p in
    let other_place = λ (lid : ℕ) (o : Option ℕ). option_or (option_map place o) (terminal_place (only [] [] terminals) lid) in
    let at_row : (get_or switches i row).lid.0 ≡ at = ap (λ (r : SwitchRow). r.lid.0) (sym is) in
    record {
      count = length-set places at here ∙ are.count;
      each = λ lid fits.
          elim (cases_eq lid at) [
            | inl same ↦
                let first : position (has at) (take (i + 1) switches) ≡ Some i =
                position-more_yes (has at) switches i row h (eq-eqb _ at at_row) (λ k lt. ne_eqb (get_or switches k row).lid.0 at (λ e. differ k i row lt h (e ∙ sym at_row))) in
                rw same (get_or-set_same places at here None (omega (arith, are.count)) ∙ sym (ap (other_place at) first))
            | inr other ↦
                let rest = position-more_no (has lid) switches i row h (ne_eqb _ lid (λ e. other (sym e ∙ at_row))) in
                get_or-set_other places at lid here None other ∙ are.each lid fits ∙ sym (ap (other_place lid) rest)
          ];
    }

-- ---- numbers that pass

pub filter_range_more : (p : ℕ → Bool) (n : ℕ) → filter p (range_with_len 0 (n + 1)) ≡ filter p (range_with_len 0 n) ++ cond (p n) (n ∷ []) []
filter_range_more p n = simp map-id at (filter_of_map_range_with_len_more p (λ x. x) 0 n n (omega arith))

-- ---- the place up to which a test passes

count_upto : {X : Type 0} (p : X → Bool) (xs : List X) (i : ℕ) (d : X) → ((k : ℕ) → k < i → p (get_or xs k d) ≡ true) → i ≤ length xs → (k : ℕ) → k ≤ i → count_by p (take k xs) ≡ k
count_upto p xs i d passes h zero lt = refl
count_upto p xs i d passes h (suc k) lt = rw (← add-one k) (count_by_more_yes p xs k d (omega arith) (passes k (omega arith)) ∙ ap (λ n. n + 1) (count_upto p xs i d passes h k (omega arith)))

count_past : {X : Type 0} (p : X → Bool) (xs : List X) (i : ℕ) (d : X) → count_by p (take i xs) ≡ i → ((k : ℕ) → i ≤ k → k < length xs → p (get_or xs k d) ≡ false) → (k : ℕ) → i + k ≤ length xs → count_by p (take (i + k) xs) ≡ i
count_past p xs i d upto fails zero h = rw add-zero upto
count_past p xs i d upto fails (suc k) h =
    let e : i + suc k ≡ (i + k) + 1 = omega arith in
    rw e (count_by_more_no p xs (i + k) d (omega arith) (fails (i + k) (omega arith) (omega arith)) ∙ count_past p xs i d upto fails k (omega arith))

pub count_by_partition : {X : Type 0} (p : X → Bool) (xs : List X) (i : ℕ) → i ≤ length xs → AllWithin (λ x. p x ≡ true) xs 0 i → AllWithin (λ x. p x ≡ false) xs i (length xs) → i ≡ count_by p xs
count_by_partition p [] zero h passes fails = refl
count_by_partition p [] (suc i) h passes fails = absurd (omega arith)
count_by_partition p (x ∷ xs) i h passes fails =
    let all = x ∷ xs in
    let upto = count_upto p all i x (λ k lt. passes k x (omega arith) lt) h i (omega arith) in
    let past = count_past p all i x upto (λ k low lt. fails k x low lt) (length all - i) (omega arith) in
    let whole : i + (length all - i) ≡ length all = omega arith in
    let e : take (i + (length all - i)) all ≡ all = rw whole (take_all (length all) all (omega arith)) in
    sym (ap (count_by p) (sym e) ∙ past)

pub channels_do_not_fall : (rows : List ChannelRow) → AllPairs GoesBefore rows → IsNonDecreasingBy (λ (row : ChannelRow). row.tail.0) rows
channels_do_not_fall rows rise = λ i j d le h.
    elim (cases_lt i j) [
      | inl lt ↦ elim (rise i j d lt h) [ inl below ↦ omega (arith, below) | inr beside ↦ omega (arith, beside.0) ]
      | inr ge ↦ let same : i ≡ j = omega arith in rw same (omega arith)
    ]
