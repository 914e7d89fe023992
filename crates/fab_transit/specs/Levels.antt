-- Levels that a plan lacks.
use Rattle.std.specs.Prelude.{◌≡◌, ℕ, ◌<◌, [], ◌∷◌}
use Rattle.fab_model.specs.declared.rows.Lid.{Lid}
use Rattle.fab_model.specs.declared.rows.SwitchId.{SwitchId}
use Rattle.fab_model.specs.Topology.{Topology}
use Rattle.fab_tables.specs.First.{IsBefore}
use Rattle.fab_transit.specs.declared.mixed.Side.{Side}
use Rattle.fab_transit.specs.declared.mixed.Mixed.{Mixed}
use Rattle.fab_transit.specs.declared.mixed.Mixed.TheVariants.{NoLevel}
use Rattle.fab_transit.specs.MixedWalks.{Change}
use Rattle.fab_transit.specs.Answers.{LacksLevel, side_number}

-- both plans have all levels
abbrev pub HasAllLevels : Topology → Change → Type 0
HasAllLevels t m = (lid source : ℕ) (side : Side) → ¬ LacksLevel t m lid source side

-- so they have for a LID
abbrev pub HasLevelsFor : Topology → Change → ℕ → Type 0
HasLevelsFor t m lid = (source : ℕ) (side : Side) → ¬ LacksLevel t m lid source side

-- and for a LID at a source
abbrev pub HasLevelsAt : Topology → Change → ℕ → ℕ → Type 0
HasLevelsAt t m lid source = (side : Side) → ¬ LacksLevel t m lid source side

-- the fault is the missing level of the first plan that lacks it there
pub record IsFirstAt (t : Topology) (m : Change) (lid : Lid) (source : SwitchId) (fault : Mixed) : Type 0 where
  pub side : Side
  pub is : fault ≡ NoLevel lid source side
  pub lacks : LacksLevel t m lid.0 source.0 side
  pub none_before : (other : Side) → side_number other < side_number side → ¬ LacksLevel t m lid.0 source.0 other

-- the fault is the first missing level for a LID
pub record IsFirstFor (t : Topology) (m : Change) (lid : Lid) (fault : Mixed) : Type 0 where
  pub source : SwitchId
  pub side : Side
  pub is : fault ≡ NoLevel lid source side
  pub lacks : LacksLevel t m lid.0 source.0 side
  pub none_before : (s : ℕ) (other : Side) → IsBefore (s ∷ side_number other ∷ []) (source.0 ∷ side_number side ∷ []) → ¬ LacksLevel t m lid.0 s other
