-- The newest of what is named in a list, found from its end.
use Rattle.std.proofs.Common.{◌≡◌, ◌+◌, ◌-◌, ◌<◌, ◌≤◌, List, [], ◌∷◌, ◌++◌, Option, Some, None, length, get_or, take, refl, sym, ap, ◌∙◌, arith}
use Rattle.std.specs.Option.{option_or}
use Rattle.std.proofs.lemmas.List.{take_more, take_all}

-- what is picked from a list is from its last element that gives something
pub record PicksNewest {A B : Type 0} (given : A → Option B) (pick : List A → Option B) : Type 0 where
  pub none : pick [] ≡ None
  pub more : (x : A) (newer : List A) → pick (x ∷ newer) ≡ option_or (pick newer) (given x)

or_none : {B : Type 0} (x : Option B) → x ≡ option_or x None
or_none None = refl
or_none (Some x) = refl

or_assoc : {B : Type 0} (x y z : Option B) → option_or (option_or x y) z ≡ option_or x (option_or y z)
or_assoc None y z = refl
or_assoc (Some x) y z = refl

picks_last : {A B : Type 0} (given : A → Option B) (pick : List A → Option B) → PicksNewest given pick → (older : List A) (x : A) → pick (older ++ x ∷ []) ≡ option_or (given x) (pick older)
picks_last given pick h [] x =
    h.more x [] ∙ ap (λ p. option_or p (given x)) h.none ∙ or_none (given x) ∙ ap (λ p. option_or (given x) p) (sym h.none)
picks_last given pick h (y ∷ older) x =
    h.more y (older ++ x ∷ []) ∙ ap (λ p. option_or p (given y)) (picks_last given pick h older x)
    ∙ or_assoc (given x) (pick older) (given y) ∙ ap (λ p. option_or (given x) p) (sym (h.more y older))

-- the same by places
pub picks_from_end : {A B : Type 0} (given : A → Option B) (pick : List A → Option B) → PicksNewest given pick → (xs : List A) (d : A) → 0 < length xs
    → pick xs ≡ option_or (given (get_or xs (length xs - 1) d)) (pick (take (length xs - 1) xs))
picks_from_end {A} given pick h xs d some =
    let last : length xs - 1 < length xs = omega (arith, some) in
    let all : length xs ≤ length xs - 1 + 1 = omega (arith, some) in
    let split : xs ≡ take (length xs - 1) xs ++ get_or xs (length xs - 1) d ∷ [] = sym (take_all (length xs - 1 + 1) xs all) ∙ take_more xs (length xs - 1) d last in
    ap pick split ∙ picks_last given pick h (take (length xs - 1) xs) (get_or xs (length xs - 1) d)
