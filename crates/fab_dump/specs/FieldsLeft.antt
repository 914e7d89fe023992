-- The fields of a line that are still to be read.
use Rattle.std.specs.Prelude.{◌≡◌, ◌≢◌, ◌<◌, ◌≤◌, ℕ, ◌+◌, ◌^◌, drop, take, Bool, true, false, ◌&&◌, List, [], ◌∷◌, ◌++◌, length, Option, Some, None, nat_lt, if◌then◌else◌}
use Rattle.std.specs.List.{list_all}
use Rattle.std.specs.Char.{is_digit}
use Rattle.fab_text.specs.Digits.{number_spelled}
use Rattle.fab_text.specs.Fields.{parts, without_empty}

-- the fields from a place on that stands before a blank or behind all; an empty one before them where the line begins there
abbrev pub fields_left : Bool → List ℕ → List (List ℕ)
fields_left true rest = [] ∷ without_empty (parts rest)
fields_left false rest = without_empty (parts rest)

-- values before others, where these can be read
abbrev pub prepended : {A : Type 0} → List A → Option (List A) → Option (List A)
prepended xs None = None
prepended xs (Some ys) = Some (xs ++ ys)

-- so many values can't be read
abbrev pub AreNot : {A : Type 0} → ℕ → Option (List A) → Type 0
AreNot {A} count o = (values : List A) → o ≡ Some values → length values ≢ count

-- the LIDs of a row stand from a place on, so many
pub record AreRowLids (lids : List ℕ) (place : ℕ × ℕ) (row : List ℕ) : Type 0 where
  pub are : row ≡ take place.1 (drop place.0 lids)
  pub some : 0 < place.1
  pub few : place.1 ≤ 64
  pub within : place.0 + place.1 ≤ length lids

-- the number that digits of a base spell, where there are no other bytes and it is within a u64
abbrev pub spelled_in : ℕ → List ℕ → Option ℕ
spelled_in base field = if list_all (λ byte. is_digit byte base) field && nat_lt (number_spelled base field) (2 ^ 64) then Some (number_spelled base field) else None
