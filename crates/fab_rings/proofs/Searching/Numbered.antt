-- Nodes get a number one by one.
use Rattle.std.proofs.Common.{◌≡◌, ◌≢◌, ℕ, ◌+◌, ◌<◌, List, [], ◌∷◌, ◌++◌, length, take, sym, ◌∙◌, ap, subst, refl, inl, inr, ◌⊎◌, arith, get_or-set_same, get_or-set_other}
use Rattle.std.specs.Prelude.{Contains, slice_index_or, slice_set}
use Rattle.std.proofs.lemmas.Bool.{cases_eq}
use Rattle.std.proofs.lemmas.List.{length-set, take_more}
use Rattle.fab_rings.specs.StrongComponents.{value_of}
use Rattle.fab_rings.specs.PathSearch.{AreNumbered}
use Rattle.fab_rings.proofs.Searching.Places.{in_front, in_pushed, end_there}

pub none_numbered : (number : ℕ) (old : List ℕ) → AreNumbered [] number old old
none_numbered number old = record { each = refl; given = λ a has. absurd (omega (arith, has.1)); others = λ a. inl refl }

module _ (nodes : List ℕ) (number : ℕ) (old numbers : List ℕ) (i : ℕ) (low : i < length nodes) (within : slice_index_or nodes i 0 < length old) (so_far : AreNumbered (take i nodes) number old numbers) where
  abbrev x : ℕ
  x = slice_index_or nodes i 0

  abbrev new : List ℕ
  new = slice_set numbers x number

  at_x : value_of new x ≡ number
  at_x = get_or-set_same numbers x number 0 (omega (arith, within, so_far.each))

  elsewhere : (a : ℕ) → a ≢ x → value_of new a ≡ value_of numbers a
  elsewhere a ne = get_or-set_other numbers x a number 0 ne

  more : take (i + 1) nodes ≡ take i nodes ++ x ∷ []
  more = take_more nodes i 0 low

  given : (a : ℕ) → Contains (take (i + 1) nodes) a → value_of new a ≡ number
  given a has = elim (cases_eq a x) [
    | inl same ↦ ap (value_of new) same ∙ at_x
    | inr ne ↦ elim (in_pushed (take i nodes) x a (subst (λ (ns : List ℕ). Contains ns a) more has)) [
      | inl before ↦ elsewhere a ne ∙ so_far.given a before
      | inr same ↦ absurd (ne (sym same))
    ]
  ]

  others : (a : ℕ) → (value_of new a ≡ value_of old a) ⊎ Contains (take (i + 1) nodes) a
  others a = elim (cases_eq a x) [
    | inl same ↦ inr (subst (λ (ns : List ℕ). Contains ns a) (sym more) (subst (λ (b : ℕ). Contains (take i nodes ++ x ∷ []) b) (sym same) (end_there (take i nodes) x)))
    | inr ne ↦ elim (so_far.others a) [
      | inl kept ↦ inl (elsewhere a ne ∙ kept)
      | inr has ↦ inr (subst (λ (ns : List ℕ). Contains ns a) (sym more) (in_front (take i nodes) (x ∷ []) a has))
    ]
  ]

  pub next_numbered : AreNumbered (take (i + 1) nodes) number old new
  next_numbered = record { each = length-set numbers x number ∙ so_far.each; given = given; others = others }
