-- Lists that are parted by a test, and pairs of their elements.
use Rattle.std.proofs.Common.{◌≡◌, ℕ, zero, suc, ◌+◌, ◌-◌, ◌<◌, Bool, true, false, cond, List, [], ◌∷◌, ◌++◌, length, drop, ap, filter, AllPairs, Contains, slice_index_or, refl, sym, ◌∙◌, subst, inl, inr, arith, length-append}
use Rattle.std.proofs.lemmas.Bool.{cases_lt}
use Rattle.std.proofs.lemmas.List.{get_or_append_left, get_or-append_right, get_or_default}
use Rattle.fab_graph.proofs.Members.{first, later, first_or_later}

module _ {X : Type 0} (p : X → Bool) where
  pub contains_filter : (xs : List X) (x : X) → Contains (filter p xs) x → Contains xs x × (p x ≡ true)
  contains_filter [] x c = absurd (omega (arith, c.1))
  contains_filter (y ∷ ys) x c = go (contains_filter ys x) (p y) refl c
    where
      go : (Contains (filter p ys) x → Contains ys x × (p x ≡ true)) → (b : Bool) → p y ≡ b → Contains (cond b (y ∷ filter p ys) (filter p ys)) x → Contains (y ∷ ys) x × (p x ≡ true)
      go rest true passes c = elim (first_or_later y (filter p ys) x c) [
        | inl same ↦ (subst (Contains (y ∷ ys)) same (first y ys), subst (λ z. p z ≡ true) same passes)
        | inr behind ↦ (later y ys x (rest behind).0, (rest behind).1)
      ]
      go rest false fails c = (later y ys x (rest c).0, (rest c).1)

  pub filter_contains : (xs : List X) (x : X) → Contains xs x → p x ≡ true → Contains (filter p xs) x
  filter_contains [] x c passes = absurd (omega (arith, c.1))
  filter_contains (y ∷ ys) x c passes = go (λ behind. filter_contains ys x behind passes) (p y) refl
    where
      go : (Contains ys x → Contains (filter p ys) x) → (b : Bool) → p y ≡ b → Contains (cond b (y ∷ filter p ys) (filter p ys)) x
      go rest true here = elim (first_or_later y ys x c) [
        | inl same ↦ subst (Contains (y ∷ filter p ys)) same (first y (filter p ys))
        | inr behind ↦ later y (filter p ys) x (rest behind)
      ]
      go rest false fails = elim (first_or_later y ys x c) [
        | inl same ↦ (let t : p y ≡ true = subst (λ z. p z ≡ true) (sym same) passes in absurd (cc))
        | inr behind ↦ rest behind
      ]

pub pairs_append : {X : Type 0} (R : X → X → Type 0) (xs ys : List X) → AllPairs R xs → AllPairs R ys → ((x y : X) → Contains xs x → Contains ys y → R x y) → AllPairs R (xs ++ ys)
pairs_append R xs ys front back across i j d i_j j_in =
    let whole = length-append xs ys in
    elim (cases_lt j (length xs)) [
      | inl before ↦
          let a = get_or_append_left xs ys d i (omega arith) in
          let b = get_or_append_left xs ys d j before in
          rw (a, b) (front i j d i_j before)
      | inr after ↦
          let b = get_or-append_right xs ys (length xs) j d refl after in
          elim (cases_lt i (length xs)) [
            | inl first ↦
                let a = get_or_append_left xs ys d i first in
                rw (a, b) (across (slice_index_or xs i d) (slice_index_or ys (j - length xs) d) (i, first, any_default xs i d (slice_index_or xs i d) first) (j - length xs, omega arith, any_default ys (j - length xs) d (slice_index_or ys (j - length xs) d) (omega arith)))
            | inr second ↦
                let a = get_or-append_right xs ys (length xs) i d refl second in
                rw (a, b) (back (i - length xs) (j - length xs) d (omega arith) (omega arith))
          ]
    ]
  where
    any_default : {X : Type 0} (xs : List X) (i : ℕ) (d e : X) → i < length xs → slice_index_or xs i e ≡ slice_index_or xs i d
    any_default xs i d e within = sym (get_or_default xs i d e within)

drop_none : {X : Type 0} (n : ℕ) → drop n (let none : List X = [] in none) ≡ []
drop_none zero = refl
drop_none (suc n) = refl

pub drop_twice : {X : Type 0} (n m : ℕ) (xs : List X) → drop m (drop n xs) ≡ drop (n + m) xs
drop_twice zero m xs = let sum : m ≡ 0 + m = omega arith in ap (λ k. drop k xs) sum
drop_twice (suc n) m [] = drop_none m ∙ sym (drop_none (suc n + m))
drop_twice (suc n) m (x ∷ xs) = let sum : suc (n + m) ≡ suc n + m = omega arith in drop_twice n m xs ∙ ap (λ k. drop k (x ∷ xs)) sum
