-- The faults of lanes that a search looks for are a choice of them.
use Rattle.std.proofs.Common.{ℕ, List}
use Rattle.fab_model.specs.declared.rows.Lid.{Lid}
use Rattle.fab_model.specs.declared.rows.SwitchId.{SwitchId}
use Rattle.fab_model.specs.Topology.{Topology}
use Rattle.fab_tables.specs.declared.verdict.VirtualChannel.{VirtualChannel}
use Rattle.fab_tables.specs.declared.verdict.Verdict.{Verdict}
use Rattle.fab_tables.specs.declared.verdict.Verdict.TheVariants.{BadLane, NoNumber, NotRising}
use Rattle.fab_tables.specs.declared.lane_faults.LaneFaults.{LaneFaults}
use Rattle.fab_tables.specs.declared.lane_faults.LaneFaults.TheVariants.{Every, Structural}
use Rattle.fab_tables.specs.Entries.{Entries}
use Rattle.fab_tables.specs.LaneTables.{LaneTables}
use Rattle.fab_tables.specs.Verdicts.{IsLaneFaultAt}
use Rattle.fab_tables.specs.LaneFaults.{IsStructuralAt, IsSoughtAt, SeeksNumbers}
use Rattle.fab_tables.proofs.Faults.StartFaults.{IsLaneChoice, all_lane_faults}

-- those that no numbers can mend
pub structural_faults : (t : Topology) (e : Entries) (l : LaneTables) → IsLaneChoice t e l (IsStructuralAt t e l)
structural_faults t e l = record { fault = λ place fault f. f.1; elsewhere = λ place other fault f g. (f.0, g); level = λ place lid source f. (tt, f) }

module _ (t : Topology) (e : Entries) (l : LaneTables) where
  pub sought_faults : (faults : LaneFaults) → IsLaneChoice t e l (IsSoughtAt faults t e l)
  sought_faults Every = all_lane_faults t e l
  sought_faults Structural = structural_faults t e l

  -- a bad lane is always looked for, and what numbers can mend where numbers are looked at
  pub bad_sought : (faults : LaneFaults) (place : List ℕ) (lid : Lid) (source at : SwitchId) → IsLaneFaultAt t e l place (BadLane lid source at) → IsSoughtAt faults t e l place (BadLane lid source at)
  bad_sought Every place lid source at f = f
  bad_sought Structural place lid source at f = (tt, f)

  pub number_sought : (faults : LaneFaults) → SeeksNumbers faults → (place : List ℕ) (fault : Verdict) → IsLaneFaultAt t e l place fault → IsSoughtAt faults t e l place fault
  number_sought Every seeks place fault f = f
  number_sought Structural seeks place fault f = absurd seeks

  pub seeks_none : (faults : LaneFaults) (place : List ℕ) (lid : Lid) (source : SwitchId) (at : VirtualChannel) → IsSoughtAt faults t e l place (NoNumber lid source at) → SeeksNumbers faults
  seeks_none Every place lid source at f = tt
  seeks_none Structural place lid source at f = f.0

  pub seeks_falling : (faults : LaneFaults) (place : List ℕ) (lid : Lid) (source : SwitchId) (first second : VirtualChannel) (m n : ℕ) →
      IsSoughtAt faults t e l place (NotRising lid source first second m n) → SeeksNumbers faults
  seeks_falling Every place lid source first second m n f = tt
  seeks_falling Structural place lid source first second m n f = f.0
