-- Faults at switches, and the first of those that are noted.
use Rattle.std.specs.Prelude.{◌≡◌, ℕ, ◌⊎◌, List, [], ◌∷◌, Option, Some, None}
use Rattle.fab_model.specs.declared.rows.Lid.{Lid}
use Rattle.fab_model.specs.declared.rows.SwitchId.{SwitchId}
use Rattle.fab_tables.specs.First.{IsBefore}
use Rattle.fab_transit.specs.declared.mixed.Side.{Side}
use Rattle.fab_transit.specs.declared.mixed.Mixed.{Mixed}
use Rattle.fab_transit.specs.declared.mixed.Mixed.TheVariants.{Lost, BadLane}
use Rattle.fab_transit.specs.declared.faults.Wrong.{Wrong}
use Rattle.fab_transit.specs.declared.faults.Wrong.TheVariants.{Entry, Lane}
use Rattle.fab_transit.specs.declared.faults.Fault.{Fault}
use Rattle.fab_transit.specs.Answers.{side_number}

abbrev pub wrong_number : Wrong → ℕ
wrong_number (Entry end) = 1
wrong_number Lane = 2

-- its place in the order of faults
abbrev pub place_of_fault : Fault → List ℕ
place_of_fault f = wrong_number f.wrong ∷ f.lid.0 ∷ f.at.0 ∷ side_number f.side ∷ []

-- the answer that it is
abbrev pub mixed_by : Wrong → Lid → SwitchId → Side → Mixed
mixed_by (Entry end) lid at side = Lost lid at side end
mixed_by Lane lid at side = BadLane lid at side

abbrev pub mixed_of : Fault → Mixed
mixed_of f = mixed_by f.wrong f.lid f.at f.side

-- one is noted that doesn't come after this one
abbrev pub IsNoted : Option Fault → Fault → Type 0
IsNoted None f = ⊥
IsNoted (Some first) f = ¬ IsBefore (place_of_fault f) (place_of_fault first)

-- a fault is noted, unless an earlier one is
pub record Notes (old : Option Fault) (f : Fault) (new : Option Fault) : Type 0 where
  pub noted : IsNoted new f
  pub kept : (g : Fault) → IsNoted old g → IsNoted new g
  pub only : (g : Fault) → new ≡ Some g → (old ≡ Some g) ⊎ (g ≡ f)
