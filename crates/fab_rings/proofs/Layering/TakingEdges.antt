-- The edges to a node's successors are taken away one by one.
use Rattle.std.proofs.Common.{◌≡◌, ◌≢◌, ℕ, ◌+◌, ◌-◌, ◌<◌, ◌≤◌, List, [], ◌∷◌, ◌++◌, length, take, ◌∙◌, sym, ap, subst, refl, inl, inr, arith, get_or-set_same, get_or-set_other}
use Rattle.std.specs.Prelude.{slice_index_or, slice_set}
use Rattle.std.proofs.lemmas.Bool.{cases_eq}
use Rattle.std.proofs.lemmas.List.{length-set}
use Rattle.fab_rings.specs.Layers.{times, left_of, times_freed, TakesEdges}
use Rattle.fab_rings.proofs.Times.{one_if_same, none_if_other, times_push, times_more, times_so_far, freed_now, freed_not}

module _ (xs old left old_next next : List ℕ) (i : ℕ) (low : i < length xs) (within : slice_index_or xs i 0 < length old) (counts : (b : ℕ) → times b xs ≤ left_of old b) (so_far : TakesEdges (take i xs) old left old_next next) where
  abbrev x : ℕ
  x = slice_index_or xs i 0

  abbrev one_less : List ℕ
  one_less = slice_set left x (left_of left x - 1)

  pub one_left : 1 ≤ left_of left x
  one_left = omega (arith, times_so_far x i xs low, one_if_same x x refl, so_far.gone x, counts x)

  at_x : left_of one_less x ≡ left_of left x - 1
  at_x = get_or-set_same left x (left_of left x - 1) 0 (omega (arith, so_far.each_left))

  elsewhere : (b : ℕ) → b ≢ x → left_of one_less b ≡ left_of left b
  elsewhere b ne = get_or-set_other left x b (left_of left x - 1) 0 ne

  turned : {m n : ℕ} → m ≢ n → n ≢ m
  turned ne e = ne (sym e)

  gone : (b : ℕ) → left_of one_less b + times b (take (i + 1) xs) ≡ left_of old b
  gone b = elim (cases_eq b x) [
    | inl same ↦ subst (λ c. left_of one_less c + times c (take (i + 1) xs) ≡ left_of old c) (sym same) (omega (arith, at_x, times_more x i xs low, one_if_same x x refl, so_far.gone x, one_left))
    | inr other ↦ omega (arith, elsewhere b other, times_more b i xs low, none_if_other x b (turned other), so_far.gone b)
  ]

  pub frees : left_of one_less x ≡ 0 → TakesEdges (take (i + 1) xs) old one_less old_next (next ++ x ∷ [])
  frees last = record { each_left = length-set left x (left_of left x - 1) ∙ so_far.each_left; gone = gone; freed = freed }
    where
      freed : (b : ℕ) → times b (next ++ x ∷ []) ≡ times b old_next + times_freed (left_of old b) (left_of one_less b)
      freed b = elim (cases_eq b x) [
        | inl same ↦ subst (λ c. times c (next ++ x ∷ []) ≡ times c old_next + times_freed (left_of old c) (left_of one_less c)) (sym same)
            (omega (arith, times_push x x next, one_if_same x x refl, so_far.freed x, freed_not (left_of old x) (left_of left x) (omega (arith, one_left)), freed_now (left_of old x) (left_of one_less x) last (omega (arith, so_far.gone x, one_left))))
        | inr other ↦ times_push b x next ∙ omega (arith, none_if_other x b (turned other), so_far.freed b, ap (times_freed (left_of old b)) (elsewhere b other))
      ]

  pub keeps_waiting : left_of one_less x ≢ 0 → TakesEdges (take (i + 1) xs) old one_less old_next next
  keeps_waiting more = record { each_left = length-set left x (left_of left x - 1) ∙ so_far.each_left; gone = gone; freed = freed }
    where
      freed : (b : ℕ) → times b next ≡ times b old_next + times_freed (left_of old b) (left_of one_less b)
      freed b = elim (cases_eq b x) [
        | inl same ↦ subst (λ c. times c next ≡ times c old_next + times_freed (left_of old c) (left_of one_less c)) (sym same)
            (omega (arith, so_far.freed x, freed_not (left_of old x) (left_of left x) (omega (arith, one_left)), freed_not (left_of old x) (left_of one_less x) (omega arith)))
        | inr other ↦ so_far.freed b ∙ ap (λ n. times b old_next + times_freed (left_of old b) n) (sym (elsewhere b other))
      ]
