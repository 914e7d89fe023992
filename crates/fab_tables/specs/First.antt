-- The first fault of a check, whatever its faults are. Each fault has a place, a list of numbers, and places are compared from the left.
use Rattle.std.specs.Prelude.{◌≡◌, ℕ, ◌<◌, ◌⊎◌, List, [], ◌∷◌, ◌++◌, Option, Some, None}

-- the one place comes before the other
abbrev pub IsBefore : List ℕ → List ℕ → Type 0
IsBefore [] [] = ⊥
IsBefore [] (n ∷ ns) = Unit {0}
IsBefore (m ∷ ms) [] = ⊥
IsBefore (m ∷ ms) (n ∷ ns) = (m < n) ⊎ ((m ≡ n) × IsBefore ms ns)

-- it stands at a place, and no fault at an earlier one
abbrev pub IsFirst : {F : Type 0} → (List ℕ → F → Type 0) → F → Type 0
IsFirst {F} P fault = (place : List ℕ) × P place fault × ((earlier : List ℕ) (other : F) → IsBefore earlier place → ¬ P earlier other)

-- the answer is the first fault, or there is none
abbrev pub FindsFirst : {F : Type 0} → (List ℕ → F → Type 0) → Option F → Type 0
FindsFirst {F} P None = (place : List ℕ) (fault : F) → ¬ P place fault
FindsFirst P (Some fault) = IsFirst P fault

-- the faults at the places that begin so
abbrev pub Beneath : {F : Type 0} → List ℕ → (List ℕ → F → Type 0) → List ℕ → F → Type 0
Beneath front P place fault = P (front ++ place) fault
