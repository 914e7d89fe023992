-- Sorted starts are in order, and are those of the terminals.
use Rattle.std.proofs.Common.{◌≡◌, ℕ, zero, suc, ◌+◌, ◌<◌, ◌≤◌, Bool, true, false, List, [], ◌∷◌, ◌++◌, length, map, take, cond, eqb, refl, sym, ◌∙◌, ap, subst, inl, inr, ◌⊎◌, arith, Some, Contains, All, slice_get, Ordering, is_lt, nat_cmp, IsPermutation, add-one}
use Rattle.std.specs.Prelude.{slice_index_or, nat_lt}
use Rattle.std.specs.Ordering.{ordering_then}
use Rattle.std.specs.List.Sorted.{IsSortedBy}
use Rattle.std.specs.declared.cmp.Ordering.TheVariants.{Less, Equal, Greater}
use Rattle.std.proofs.lemmas.Bool.{cases_lt, ltb-false, eq-eqb, both_ways}
use Rattle.std.proofs.lemmas.List.{get_or-map, length-map, take_more, map_push}
use Rattle.std.proofs.lemmas.List.Elements.{Contains-get_or, All-map}
use Rattle.std.proofs.lemmas.List.Sorted.{Contains-permutation, All-permutation, length_permutation}
use Rattle.std.proofs.lemmas.Option.{slice_get_within, get_or_from_slice_get}
use Rattle.fab_model.specs.declared.rows.TerminalRow.{TerminalRow}
use Rattle.fab_model.specs.Topology.{Topology}
use Rattle.fab_tables.specs.declared.starts.Start.{Start}
use Rattle.fab_tables.specs.Starts.{start_of, StartsNotAfter, IsOfTerminal, AreStarts}

abbrev compared : Start → Start → Ordering
compared a b = ordering_then (nat_cmp a.switch.0 b.switch.0) (nat_cmp a.port b.port)

by_tests : (a b c d : Bool) → is_lt (ordering_then (cond a Less (cond b Equal Greater)) (cond c Less (cond d Equal Greater))) ≡ false → (a ≡ false) × (b ≡ true → c ≡ false)
by_tests true b c d e = cc
by_tests false true true d e = cc
by_tests false true false d e = (refl, λ x. refl)
by_tests false false c d e = (refl, λ x. absurd (both_ways false refl x))

not_after : (a b : Start) → is_lt (compared b a) ≡ false → StartsNotAfter a b
not_after a b e = go (cases_lt a.switch.0 b.switch.0)
  where
    tests : (nat_lt b.switch.0 a.switch.0 ≡ false) × (eqb b.switch.0 a.switch.0 ≡ true → nat_lt b.port a.port ≡ false)
    tests = by_tests (nat_lt b.switch.0 a.switch.0) (eqb b.switch.0 a.switch.0) (nat_lt b.port a.port) (eqb b.port a.port) e

    go : (a.switch.0 < b.switch.0) ⊎ (b.switch.0 ≤ a.switch.0) → StartsNotAfter a b
    go (inl less) = inl less
    go (inr more) =
        let same : a.switch.0 ≡ b.switch.0 = omega (arith, ltb-false b.switch.0 a.switch.0 tests.0) in
        inr (same, ltb-false b.port a.port (tests.1 (eq-eqb b.switch.0 a.switch.0 (sym same))))

after_all : (a b c : Start) → StartsNotAfter a b → StartsNotAfter b c → StartsNotAfter a c
after_all a b c (inl x) (inl y) = inl (omega arith)
after_all a b c (inl x) (inr y) = inl (omega (arith, y.0))
after_all a b c (inr x) (inl y) = inl (omega (arith, x.0))
after_all a b c (inr x) (inr y) = inr (x.0 ∙ y.0, omega (arith, x.1, y.1))

in_order : (starts : List Start) → IsSortedBy (λ x y. is_lt (compared x y)) starts → (i j : ℕ) (d : Start) → i ≤ j → j < length starts → StartsNotAfter (slice_index_or starts i d) (slice_index_or starts j d)
in_order starts sorted i zero d below low = let e : i ≡ 0 = omega arith in subst (λ k. StartsNotAfter (slice_index_or starts k d) (slice_index_or starts 0 d)) (sym e) (inr (refl, omega arith))
in_order starts sorted i (suc j) d below low = go (λ h. in_order starts sorted i j d h (omega arith)) (cases_lt i (suc j))
  where
    go : (i ≤ j → StartsNotAfter (slice_index_or starts i d) (slice_index_or starts j d)) → (i < suc j) ⊎ (suc j ≤ i) → StartsNotAfter (slice_index_or starts i d) (slice_index_or starts (suc j) d)
    go before (inl less) =
        let next : StartsNotAfter (slice_index_or starts j d) (slice_index_or starts (suc j) d) =
        subst (λ k. StartsNotAfter (slice_index_or starts j d) (slice_index_or starts k d)) (add-one j) (not_after (slice_index_or starts j d) (slice_index_or starts (j + 1) d) (sorted j d (omega arith) (omega arith))) in
        after_all (slice_index_or starts i d) (slice_index_or starts j d) (slice_index_or starts (suc j) d) (before (omega arith)) next
    go before (inr same) = let e : i ≡ suc j = omega arith in subst (λ k. StartsNotAfter (slice_index_or starts k d) (slice_index_or starts (suc j) d)) (sym e) (inr (refl, omega arith))

module _ (t : Topology) where
  mapped : (row : TerminalRow) → Contains t.terminals row → Contains (map start_of t.terminals) (start_of row)
  mapped row has = (has.0, omega (arith, has.1, length-map t.terminals start_of), get_or-map start_of t.terminals has.0 row (start_of row) has.1 ∙ ap start_of has.2)

  of_terminals : All (IsOfTerminal t) (map start_of t.terminals)
  of_terminals = All-map (IsOfTerminal t) start_of t.terminals (λ k d low. (slice_index_or t.terminals k d, Contains-get_or t.terminals k d low, refl))

  pub sorted_starts : (unsorted starts : List Start) → unsorted ≡ map start_of t.terminals → IsPermutation unsorted starts → IsSortedBy (λ x y. is_lt (compared x y)) starts → AreStarts t starts
  sorted_starts unsorted starts is moved sorted = record {
    in_order = in_order starts sorted;
    as_many = length_permutation unsorted starts moved ∙ ap (λ (xs : List Start). length xs) is ∙ length-map t.terminals start_of;
    terminals = All-permutation (IsOfTerminal t) unsorted starts moved (subst (λ xs. All (IsOfTerminal t) xs) (sym is) of_terminals);
    all = λ k d low. Contains-permutation unsorted starts (start_of (slice_index_or t.terminals k d)) moved
        (subst (λ xs. Contains xs (start_of (slice_index_or t.terminals k d))) (sym is) (mapped (slice_index_or t.terminals k d) (Contains-get_or t.terminals k d low)));
  }

  pub one_start_more : (starts : List Start) (index : ℕ) (row : TerminalRow) → starts ≡ map start_of (take index t.terminals) → slice_get t.terminals index ≡ Some row →
      starts ++ start_of row ∷ [] ≡ map start_of (take (index + 1) t.terminals)
  one_start_more starts index row is at =
      ap (λ xs. xs ++ start_of row ∷ []) is ∙ sym (map_push start_of (take index t.terminals) row)
      ∙ ap (λ x. map start_of (take index t.terminals ++ x ∷ [])) (sym (get_or_from_slice_get t.terminals index row row at))
      ∙ ap (λ xs. map start_of xs) (sym (take_more t.terminals index row (slice_get_within t.terminals index row at)))
