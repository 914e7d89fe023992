-- Lists in one strict order with the same elements are one list.
use Rattle.std.proofs.Common.{◌≡◌, ℕ, suc, ◌<◌, List, [], ◌∷◌, refl, sym, ◌∙◌, ap, subst, inl, inr, ◌⊎◌, arith, Contains}
use Rattle.std.specs.Prelude.{AllPairs}
use Rattle.fab_graph.proofs.Members.{first, later, first_or_later}

pub pairs_head : {A : Type 0} (R : A → A → Type 0) (x : A) (xs : List A) → AllPairs R (x ∷ xs) → (a : A) → Contains xs a → R x a
pairs_head R x xs pairs a has = subst (λ y. R x y) has.2 (pairs 0 (suc has.0) a (omega arith) (omega (arith, has.1)))

pub pairs_tail : {A : Type 0} (R : A → A → Type 0) (x : A) (xs : List A) → AllPairs R (x ∷ xs) → AllPairs R xs
pairs_tail R x xs pairs i j d less low = pairs (suc i) (suc j) d (omega arith) (omega arith)

module _ {A : Type 0} (R : A → A → Type 0) (never : (a b : A) → R a b → R b a → ⊥) where
  same_head : (x y : A) (xs ys : List A) → AllPairs R (x ∷ xs) → AllPairs R (y ∷ ys) → (y ≡ x) ⊎ Contains ys x → (x ≡ y) ⊎ Contains xs y → x ≡ y
  same_head x y xs ys p q (inl e) h = sym e
  same_head x y xs ys p q (inr g) (inl e) = e
  same_head x y xs ys p q (inr g) (inr h) = absurd (never x y (pairs_head R x xs p y h) (pairs_head R y ys q x g))

  in_tail : (x y : A) (xs ys : List A) → AllPairs R (x ∷ xs) → x ≡ y → (a : A) → Contains xs a → Contains (y ∷ ys) a → Contains ys a
  in_tail x y xs ys p same a has is = elim (first_or_later y ys a is) [
    | inl e ↦ (let itself : R a a = subst (λ z. R z a) (same ∙ e) (pairs_head R x xs p a has) in absurd (never a a itself itself))
    | inr h ↦ h
  ]

  pub one_order : (xs ys : List A) → AllPairs R xs → AllPairs R ys → ((a : A) → Contains xs a → Contains ys a) → ((a : A) → Contains ys a → Contains xs a) → xs ≡ ys
  one_order [] [] p q to from = refl
  one_order [] (y ∷ ys) p q to from = absurd (omega (arith, (from y (first y ys)).1))
  one_order (x ∷ xs) [] p q to from = absurd (omega (arith, (to x (first x xs)).1))
  one_order (x ∷ xs) (y ∷ ys) p q to from =
      let same : x ≡ y = same_head x y xs ys p q (first_or_later y ys x (to x (first x xs))) (first_or_later x xs y (from y (first y ys))) in
      ap (λ z. z ∷ xs) same ∙ ap (λ zs. y ∷ zs) (one_order xs ys (pairs_tail R x xs p) (pairs_tail R y ys q)
      (λ a has. in_tail x y xs ys p same a has (to a (later x xs a has)))
      (λ a has. in_tail y x ys xs q (sym same) a has (from a (later y ys a has))))

-- rising lists of numbers
pub rising_same : (xs ys : List ℕ) → AllPairs (λ m n. m < n) xs → AllPairs (λ m n. m < n) ys → ((n : ℕ) → Contains xs n → Contains ys n) → ((n : ℕ) → Contains ys n → Contains xs n) → xs ≡ ys
rising_same = one_order (λ m n. m < n) (λ m n p q. omega (arith, p, q))
