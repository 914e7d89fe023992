-- The tails of the edges to a node are reached one by one.
use Rattle.std.proofs.Common.{◌≡◌, ◌≢◌, ℕ, ◌+◌, ◌<◌, ◌≤◌, List, [], ◌∷◌, ◌++◌, length, take, ◌∙◌, sym, ap, refl, inl, inr, ◌⊎◌, arith, get_or-set_same, get_or-set_other}
use Rattle.std.specs.Prelude.{◌==◌, slice_index_or, slice_set}
use Rattle.std.proofs.lemmas.Bool.{cases_eq, cases_lt}
use Rattle.std.proofs.lemmas.List.{length-set, length_push}
use Rattle.std.proofs.lemmas.List.Sums.{sum_by-set}
use Rattle.fab_rings.specs.Layers.{times}
use Rattle.fab_rings.specs.Nearness.{near_of, ReachesTails}
use Rattle.fab_rings.proofs.Times.{one_if, one_if_same, none_if_other, times_push, times_more}

-- nothing is reached at first
pub reaches_none : (distance : ℕ) (near next : List ℕ) → ReachesTails [] distance near near next next
reaches_none distance near next = record {
  each = refl;
  kept = λ a h. refl;
  given = λ a none h. absurd (omega arith);
  others = λ a none h. none;
  next_kept = λ a h. h;
  next_given = λ a none h. absurd (omega arith);
  next_only = λ a h. inl h;
  fewer = refl;
}

module _ (tails : List ℕ) (distance : ℕ) (some : 0 < distance) (old near old_next next : List ℕ) (i : ℕ) (low : i < length tails) (within : slice_index_or tails i 0 < length old) (so_far : ReachesTails (take i tails) distance old near old_next next) where
  abbrev x : ℕ
  x = slice_index_or tails i 0

  turned : {m n : ℕ} → m ≢ n → n ≢ m
  turned ne e = ne (sym e)

  more_than : (a : ℕ) → times a (take i tails) ≤ times a (take (i + 1) tails)
  more_than a = omega (arith, times_more a i tails low)

  at_x_more : 0 < times x (take (i + 1) tails)
  at_x_more = omega (arith, times_more x i tails low, one_if_same x x refl)

  others_same : (a : ℕ) → a ≢ x → times a (take (i + 1) tails) ≡ times a (take i tails)
  others_same a ne = omega (arith, times_more a i tails low, none_if_other x a (turned ne))

  -- a tail that has no number yet
  module _ (none : near_of near x ≡ 0) where
    abbrev given : List ℕ
    given = slice_set near x distance

    at_x : near_of given x ≡ distance
    at_x = get_or-set_same near x distance 0 (omega (arith, so_far.each))

    elsewhere : (a : ℕ) → a ≢ x → near_of given a ≡ near_of near a
    elsewhere a ne = get_or-set_other near x a distance 0 ne

    -- it had none before
    had_none : near_of old x ≡ 0
    had_none = elim (cases_lt 0 (near_of old x)) [ inl had ↦ absurd (omega (arith, so_far.kept x had, none)) | inr not ↦ omega arith ]

    pub reaches_new : ReachesTails (take (i + 1) tails) distance old given old_next (next ++ x ∷ [])
    reaches_new = record {
      each = length-set near x distance ∙ so_far.each;
      kept = λ a had. elsewhere a (λ e. absurd (omega (arith, had, ap (near_of old) e, had_none))) ∙ so_far.kept a had;
      given = is_given;
      others = λ a was never. let ne : a ≢ x = λ e. absurd (omega (arith, never, ap (λ b. times b (take (i + 1) tails)) e, at_x_more)) in elsewhere a ne ∙ so_far.others a was (omega (arith, never, more_than a));
      next_kept = λ a h. omega (arith, so_far.next_kept a h, times_push a x next);
      next_given = next_given;
      next_only = next_only;
      fewer = omega (
        arith,
        sum_by-set (λ n. one_if (n == 0)) near x distance 0 (omega (arith, so_far.each)),
        one_if_same (near_of near x) 0 none,
        none_if_other distance 0 (λ e. absurd (omega arith)),
        length_push next x,
        so_far.fewer,
      );
    }
      where
        is_given : (a : ℕ) → near_of old a ≡ 0 → 0 < times a (take (i + 1) tails) → near_of given a ≡ distance
        is_given a was there = elim (cases_eq a x) [
          | inl same ↦ ap (near_of given) same ∙ at_x
          | inr ne ↦ elsewhere a ne ∙ so_far.given a was (omega (arith, there, others_same a ne))
        ]

        next_given : (a : ℕ) → near_of old a ≡ 0 → 0 < near_of given a → 0 < times a (next ++ x ∷ [])
        next_given a was has = elim (cases_eq a x) [
          | inl same ↦ omega (arith, times_push a x next, one_if_same x a (sym same))
          | inr ne ↦ omega (arith, times_push a x next, so_far.next_given a was (omega (arith, has, elsewhere a ne)))
        ]

        next_only : (a : ℕ) → 0 < times a (next ++ x ∷ []) → (0 < times a old_next) ⊎ ((near_of old a ≡ 0) × (0 < near_of given a))
        next_only a there = elim (cases_eq a x) [
          | inl same ↦ inr (ap (near_of old) same ∙ had_none, omega (arith, ap (near_of given) same, at_x))
          | inr ne ↦ elim (so_far.next_only a (omega (arith, there, times_push a x next, none_if_other x a (turned ne)))) [
            | inl before ↦ inl before
            | inr new ↦ inr (new.0, omega (arith, new.1, elsewhere a ne))
          ]
        ]

  -- a tail that has a number
  pub reaches_old : near_of near x ≢ 0 → ReachesTails (take (i + 1) tails) distance old near old_next next
  reaches_old has = record {
    each = so_far.each;
    kept = so_far.kept;
    given = given;
    others = λ a was never. so_far.others a was (omega (arith, never, more_than a));
    next_kept = so_far.next_kept;
    next_given = so_far.next_given;
    next_only = so_far.next_only;
    fewer = so_far.fewer;
  }
    where
      given : (a : ℕ) → near_of old a ≡ 0 → 0 < times a (take (i + 1) tails) → near_of near a ≡ distance
      given a was there = elim (cases_lt 0 (times a (take i tails))) [
        | inl before ↦ so_far.given a was before
        | inr none ↦ elim (cases_eq a x) [
          | inl same ↦ absurd (has (ap (near_of near) (sym same) ∙ so_far.others a was (omega arith)))
          | inr ne ↦ absurd (omega (arith, there, others_same a ne, none))
        ]
      ]
