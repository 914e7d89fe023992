-- An element's number: the first place at which its key stands.
use Rattle.std.proofs.Common.{◌≡◌, ◌≢◌, ℕ, ◌<◌, inl, inr, List, [], ◌∷◌, length, Some, sym, ◌∙◌, ap}
use Rattle.std.specs.Prelude.{slice_get, find, ◌==◌}
use Rattle.std.specs.List.{position_or_len}
use Rattle.std.proofs.lemmas.Bool.{eq-eqb, ne_eqb, cond-true, cond-false}
use Rattle.std.proofs.lemmas.List.Folds.{find_at}
use Rattle.std.proofs.lemmas.Option.{slice_get_within, same_Some}
use Rattle.fab_model.proofs.Lists.Members.{In, Pairs}

abbrev pub number_of : {X : Type 0} → (X → ℕ) → ℕ → List X → ℕ
number_of key value xs = position_or_len (λ x. key x == value) xs

find_key : {X : Type 0} (key : X → ℕ) (xs : List X) (x : X) → Pairs (λ x y. key x ≢ key y) xs → In x xs → find (λ y. key y == key x) xs ≡ Some x
find_key key [] x pairs within = absurd within
find_key key (y ∷ ys) x pairs (inl e) =
    cond-true (key y == key x) (Some y) (find (λ z. key z == key x) ys) (eq-eqb (key y) (key x) (ap key e)) ∙ ap Some e
find_key key (y ∷ ys) x pairs (inr within) =
    cond-false (key y == key x) (Some y) (find (λ z. key z == key x) ys) (ne_eqb (key y) (key x) (pairs.0 x within)) ∙ find_key key ys x pairs.1 within

pub slice_get_number : {X : Type 0} (key : X → ℕ) (xs : List X) (x : X) → Pairs (λ x y. key x ≢ key y) xs → In x xs → slice_get xs (number_of key (key x) xs) ≡ Some x
slice_get_number key xs x pairs within = sym (find_at (λ y. key y == key x) xs) ∙ find_key key xs x pairs within

pub number_within : {X : Type 0} (key : X → ℕ) (xs : List X) (x : X) → Pairs (λ x y. key x ≢ key y) xs → In x xs → number_of key (key x) xs < length xs
number_within key xs x pairs within = slice_get_within xs (number_of key (key x) xs) x (slice_get_number key xs x pairs within)

pub same_number : {X : Type 0} (key : X → ℕ) (xs : List X) (x y : X) → Pairs (λ x y. key x ≢ key y) xs → In x xs → In y xs → number_of key (key x) xs ≡ number_of key (key y) xs → x ≡ y
same_number key xs x y pairs one other same =
    same_Some x y (sym (slice_get_number key xs x pairs one) ∙ ap (slice_get xs) same ∙ slice_get_number key xs y pairs other)
