-- Marks that are taken away all at once, by the next stamp.
use Rattle.std.specs.Prelude.{ℕ, ◌==◌, List, map, Bool}

-- a mark stands where it equals the stamp
abbrev pub standing_marks : ℕ → List ℕ → List Bool
standing_marks stamp marks = map (λ mark. mark == stamp) marks
