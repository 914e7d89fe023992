-- The first fault is found number by number of its place.
use Rattle.std.proofs.Common.{◌≡◌, ℕ, ◌<◌, List, [], ◌∷◌, refl, sym, subst, ◌∙◌, arith, ◌⊎◌, inl, inr, None}
use Rattle.std.specs.Prelude.{Contains}
use Rattle.std.proofs.lemmas.Bool.{cases_order}
use Rattle.fab_graph.proofs.Members.{first, later, first_or_later}
use Rattle.fab_tables.specs.First.{IsBefore, IsFirst, FindsFirst, Beneath}

-- of two places one comes first, unless they are the same
pub order : (p q : List ℕ) → IsBefore p q ⊎ ((p ≡ q) ⊎ IsBefore q p)
order [] [] = inr (inl refl)
order [] (n ∷ ns) = inl tt
order (m ∷ ms) [] = inr (inr tt)
order (m ∷ ms) (n ∷ ns) = heads (cases_order m n) (order ms ns)
  where
    heads : (m ≡ n) ⊎ ((m < n) ⊎ (n < m)) → IsBefore ms ns ⊎ ((ms ≡ ns) ⊎ IsBefore ns ms) → IsBefore (m ∷ ms) (n ∷ ns) ⊎ (((m ∷ ms) ≡ (n ∷ ns)) ⊎ IsBefore (n ∷ ns) (m ∷ ms))
    heads (inr (inl a)) t = inl (inl a)
    heads (inr (inr a)) t = inr (inr (inl a))
    heads (inl a) (inl b) = inl (inr (a, b))
    heads (inl a) (inr (inl b)) = inr (inl (cc))
    heads (inl a) (inr (inr b)) = inr (inr (inr (sym a, b)))

-- no place comes before itself
pub before_itself : (p : List ℕ) → ¬ IsBefore p p
before_itself [] h = h
before_itself (m ∷ ms) (inl less) = omega (arith, less)
before_itself (m ∷ ms) (inr same) = before_itself ms same.1

pub before_through : (p q r : List ℕ) → IsBefore p q → IsBefore q r → IsBefore p r
before_through [] [] r h k = absurd h
before_through [] (n ∷ ns) [] h k = absurd k
before_through [] (n ∷ ns) (o ∷ os) h k = tt
before_through (m ∷ ms) [] r h k = absurd h
before_through (m ∷ ms) (n ∷ ns) [] h k = absurd k
before_through (m ∷ ms) (n ∷ ns) (o ∷ os) (inl a) (inl b) = inl (omega (arith, a, b))
before_through (m ∷ ms) (n ∷ ns) (o ∷ os) (inl a) (inr b) = inl (omega (arith, a, b.0))
before_through (m ∷ ms) (n ∷ ns) (o ∷ os) (inr a) (inl b) = inl (omega (arith, a.0, b))
before_through (m ∷ ms) (n ∷ ns) (o ∷ os) (inr a) (inr b) = inr (a.0 ∙ b.0, before_through ms ns os a.1 b.1)

pub not_sooner : (p q : List ℕ) → (p ≡ q) ⊎ IsBefore q p → ¬ IsBefore p q
not_sooner p q (inl same) before = before_itself q (subst (λ k. IsBefore k q) same before)
not_sooner p q (inr after) before = before_itself p (before_through p q p before after)

-- the first of listed things by their places
module _ {X : Type 0} (place : X → List ℕ) where
  abbrev pub FirstIn : List X → Type 0
  FirstIn xs = (x : X) × Contains xs x × ((y : X) → Contains xs y → ¬ IsBefore (place y) (place x))

  pub first_in : (xs : List X) → FirstIn xs ⊎ ((y : X) → ¬ Contains xs y)
  first_in [] = inr (λ y has. omega (arith, has.1))
  first_in (x ∷ xs) = inl (elim (first_in xs) [ inl m ↦ with_first m | inr none ↦ (x, first x xs, λ y has. alone none y (first_or_later x xs y has)) ])
    where
      alone : ((y : X) → ¬ Contains xs y) → (y : X) → (x ≡ y) ⊎ Contains xs y → ¬ IsBefore (place y) (place x)
      alone none y (inl e) before = before_itself (place x) (subst (λ q. IsBefore (place q) (place x)) (sym e) before)
      alone none y (inr has) before = none y has

      with_first : FirstIn xs → FirstIn (x ∷ xs)
      with_first m = elim (order (place x) (place m.0)) [
        | inl sooner ↦ (
          x,
          first x xs,
          λ y has before. elim (first_or_later x xs y has) [
            | inl e ↦ before_itself (place x) (subst (λ q. IsBefore (place q) (place x)) (sym e) before)
            | inr there ↦ m.2 y there (before_through (place y) (place x) (place m.0) before sooner)
          ],
        )
        | inr later_or_same ↦ (
          m.0,
          later x xs m.0 m.1,
          λ y has before. elim (first_or_later x xs y has) [
            | inr there ↦ m.2 y there before
            | inl e ↦ not_sooner (place x) (place m.0) later_or_same (subst (λ q. IsBefore (place q) (place m.0)) (sym e) before)
          ],
        )
      ]

-- where each place has one fault, two first faults are one
pub one_first : {F : Type 0} (P : List ℕ → F → Type 0) → ((place : List ℕ) (v w : F) → P place v → P place w → v ≡ w) → (v w : F) → IsFirst P v → IsFirst P w → v ≡ w
one_first P same v w x y = elim (order x.0 y.0) [ inl a ↦ absurd (y.2 x.0 v a x.1) | inr (inl b) ↦ same y.0 v w (subst (λ p. P p v) b x.1) y.1 | inr (inr c) ↦ absurd (x.2 y.0 w c y.1) ]

module _ {F : Type 0} (P : List ℕ → F → Type 0) (empty : (fault : F) → ¬ P [] fault) where
  -- where none is beneath any number, there is none
  pub none_beneath : ((m : ℕ) → FindsFirst (Beneath (m ∷ []) P) None) → FindsFirst P None
  none_beneath none [] fault h = empty fault h
  none_beneath none (m ∷ ms) fault h = none m ms fault h

  -- the first fault beneath a number is the first of all, where none is beneath smaller ones
  pub first_beneath : (n : ℕ) (fault : F) → IsFirst (Beneath (n ∷ []) P) fault → ((m : ℕ) → m < n → FindsFirst (Beneath (m ∷ []) P) None) → IsFirst P fault
  first_beneath n fault first none = (n ∷ first.0, first.1, before)
    where
      before : (earlier : List ℕ) (other : F) → IsBefore earlier (n ∷ first.0) → ¬ P earlier other
      before [] other h p = empty other p
      before (m ∷ ms) other (inl less) p = none m less ms other p
      before (m ∷ ms) other (inr same) p = first.2 ms other same.1 (subst (λ k. P (k ∷ ms) other) same.0 p)
