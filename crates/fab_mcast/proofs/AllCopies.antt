-- The copies of a packet: where one step more adds none, no step does, so there is one list of all copies.
use Rattle.std.proofs.Common.{◌≡◌, ℕ, zero, suc, ◌+◌, ◌-◌, ◌<◌, ◌≤◌, inl, inr, List, [], ◌∷◌, ◌++◌, length, refl, sym, ◌∙◌, ap, subst, arith, length-append}
use Rattle.std.specs.Prelude.{flat_map, Contains}
use Rattle.std.specs.List.Sorted.{IsStrictlyIncreasing}
use Rattle.std.proofs.lemmas.Bool.{cases_lt}
use Rattle.std.proofs.lemmas.List.Kept.{AllPairs-from_increasing}
use Rattle.std.proofs.lemmas.Option.{same_Some}
use Rattle.fab_model.specs.declared.rows.TerminalRow.{TerminalRow}
use Rattle.fab_model.specs.Topology.{Topology}
use Rattle.fab_model.proofs.Lists.Members.{In, Pairs, AllPairs_from_pairs, in_from_Contains, Contains_from_in, pairs_from_AllPairs}
use Rattle.fab_model.proofs.Lists.Found.{rising_same}
use Rattle.fab_mcast.specs.Copies.{Copy, copies_of, copies_within}
use Rattle.fab_mcast.specs.Spreads.{first_copy, AreCopies, reached}
use Rattle.fab_mcast.specs.Laws.{OneSpread}

module _ (t : Topology) (ports : List (List ℕ)) where
  abbrev within : ℕ → Copy → List Copy
  within n copy = copies_within t ports n copy

  abbrev all_within : ℕ → List Copy → List Copy
  all_within n copies = flat_map (λ next. within n next) copies

  -- one step more adds, and never takes
  grows : (n : ℕ) (copy : Copy) → length (within n copy) ≤ length (within (suc n) copy)
  grows zero copy = omega arith
  grows (suc n) copy = omega (arith, all (copies_of t ports copy) (λ next. grows n next))
    where
      all : (copies : List Copy) → ((next : Copy) → length (within n next) ≤ length (within (suc n) next)) → length (all_within n copies) ≤ length (all_within (suc n) copies)
      all [] each = omega arith
      all (c ∷ cs) each = omega (arith, length-append (within n c) (all_within n cs), length-append (within (suc n) c) (all_within (suc n) cs), each c, all cs each)

  -- where it adds none, the next one adds none
  pub stays : (n : ℕ) (copy : Copy) → length (within (suc n) copy) ≡ length (within n copy) → within (suc (suc n)) copy ≡ within (suc n) copy
  stays zero copy h = absurd (omega (arith, h))
  stays (suc n) copy h = ap (λ cs. copy ∷ cs) (all (copies_of t ports copy) (λ next k. stays n next k) (omega (arith, h)))
    where
      all : (copies : List Copy) → ((next : Copy) → length (within (suc n) next) ≡ length (within n next) → within (suc (suc n)) next ≡ within (suc n) next) →
          length (all_within (suc n) copies) ≡ length (all_within n copies) → all_within (suc (suc n)) copies ≡ all_within (suc n) copies
      all [] each e = refl
      all (c ∷ cs) each e =
          let rest : length (all_within n cs) ≤ length (all_within (suc n) cs) = all_grow cs in
          let first : length (within (suc n) c) ≡ length (within n c) = omega (arith, e, rest, grows n c, length-append (within n c) (all_within n cs), length-append (within (suc n) c) (all_within (suc n) cs)) in
          let others : length (all_within (suc n) cs) ≡ length (all_within n cs) = omega (arith, e, first, length-append (within n c) (all_within n cs), length-append (within (suc n) c) (all_within (suc n) cs)) in
          ap (λ xs. xs ++ all_within (suc (suc n)) cs) (each c first) ∙ ap (λ xs. within (suc n) c ++ xs) (all cs each others)
        where
          all_grow : (copies : List Copy) → length (all_within n copies) ≤ length (all_within (suc n) copies)
          all_grow [] = omega arith
          all_grow (d ∷ ds) = omega (arith, length-append (within n d) (all_within n ds), length-append (within (suc n) d) (all_within (suc n) ds), grows n d, all_grow ds)

  -- where copies give no more in one step more, none of them does
  pub none_more : (n : ℕ) (copies : List Copy) → length (all_within (suc n) copies) ≡ length (all_within n copies) → (copy : Copy) → In copy copies → length (within (suc n) copy) ≡ length (within n copy)
  none_more n [] e copy at = absurd at
  none_more n (c ∷ cs) e copy at = elim at [
    | inl same ↦ subst (λ d. length (within (suc n) d) ≡ length (within n d)) same first
    | inr later ↦ none_more n cs others copy later
  ]
    where
      all_grow : (copies : List Copy) → length (all_within n copies) ≤ length (all_within (suc n) copies)
      all_grow [] = omega arith
      all_grow (d ∷ ds) = omega (arith, length-append (within n d) (all_within n ds), length-append (within (suc n) d) (all_within (suc n) ds), grows n d, all_grow ds)

      first : length (within (suc n) c) ≡ length (within n c)
      first = omega (arith, e, all_grow cs, grows n c, length-append (within n c) (all_within n cs), length-append (within (suc n) c) (all_within (suc n) cs))

      others : length (all_within (suc n) cs) ≡ length (all_within n cs)
      others = omega (arith, e, first, length-append (within n c) (all_within n cs), length-append (within (suc n) c) (all_within (suc n) cs))

  -- nor any later one
  stays_on : (d n : ℕ) (copy : Copy) → within (suc n) copy ≡ within n copy → within (d + n) copy ≡ within n copy
  stays_on zero n copy h = ap (λ k. within k copy) nothing
    where
      nothing : 0 + n ≡ n
      nothing = omega arith
  stays_on (suc d) n copy h =
      let next : suc d + n ≡ d + suc n = omega arith in
      ap (λ k. within k copy) next ∙ stays_on d (suc n) copy (stays n copy (ap length h)) ∙ h

  pub one_end : (m n : ℕ) (copy : Copy) → within (suc m) copy ≡ within m copy → within (suc n) copy ≡ within n copy → within m copy ≡ within n copy
  one_end m n copy a b = elim (cases_lt m n) [
    | inl less ↦ (let e : n ≡ (n - m) + m = omega (arith, less) in sym (ap (λ k. within k copy) e ∙ stays_on (n - m) m copy a))
    | inr more ↦ (let e : m ≡ (m - n) + n = omega (arith, more) in ap (λ k. within k copy) e ∙ stays_on (m - n) n copy b)
  ]

  pub one_list : (row : TerminalRow) (xs ys : List Copy) → AreCopies t ports row xs → AreCopies t ports row ys → xs ≡ ys
  one_list row xs ys x y = sym x.are ∙ one_end x.steps y.steps (first_copy row) (x.no_more ∙ sym x.are) (y.no_more ∙ sym y.are) ∙ y.are

-- a list that rises from each to the next
pub increasing : (xs : List ℕ) → Pairs (λ m n. m < n) xs → IsStrictlyIncreasing xs
increasing xs rise = λ k h. AllPairs_from_pairs (λ m n. m < n) xs rise k (k + 1) 0 (omega arith) h

-- ascending lists with the same elements are one
pub one_ascending : (xs ys : List ℕ) → IsStrictlyIncreasing xs → IsStrictlyIncreasing ys → ((n : ℕ) → Contains xs n → Contains ys n) → ((n : ℕ) → Contains ys n → Contains xs n) → xs ≡ ys
one_ascending xs ys a b to from =
    rising_same (λ m n. m < n) (λ m n p q. omega (arith, p, q)) xs ys
    (pairs_from_AllPairs (λ m n. m < n) xs (AllPairs-from_increasing xs a)) (pairs_from_AllPairs (λ m n. m < n) ys (AllPairs-from_increasing ys b))
    (λ n h. in_from_Contains ys n (to n (Contains_from_in xs n h))) (λ n h. in_from_Contains xs n (from n (Contains_from_in ys n h)))

pub one_spread : OneSpread
one_spread t ports from x y a b =
    let row : b.row ≡ a.row = same_Some b.row a.row (sym b.is_row ∙ a.is_row) in
    let all : a.all ≡ b.all = one_list t ports a.row a.all b.all a.copies (subst (λ r. AreCopies t ports r b.all) row b.copies) in
    let to : (n : ℕ) → Contains (reached t ports a.all) n → Contains (reached t ports b.all) n = λ n h. subst (λ cs. Contains (reached t ports cs) n) all h in
    let back : (n : ℕ) → Contains (reached t ports b.all) n → Contains (reached t ports a.all) n = λ n h. subst (λ cs. Contains (reached t ports cs) n) (sym all) h in
    one_ascending x y a.ascending b.ascending (λ n h. (b.each n).1 (to n ((a.each n).0 h))) (λ n h. (a.each n).1 (back n ((b.each n).0 h)))
