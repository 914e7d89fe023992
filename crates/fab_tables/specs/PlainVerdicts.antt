-- The verdict on a plan without pairs, said of sources: a fault's place is that of Verdicts without the terminal's port.
--     0, LID, switch            a route that isn't delivered
--     1, LID, source            no level
--     1, LID, source, hop, 0    a lane that is not below the lane count
--     1, LID, source, hop, 1    no number
--     1, LID, source, hop, 2    a number that is not above that of the hop before
use Rattle.std.specs.Prelude.{◌≡◌, ℕ, suc, ◌≤◌, List, [], ◌∷◌, Option, Some, None, slice_get, IsSome}
use Rattle.fab_model.specs.declared.rows.SwitchId.{SwitchId}
use Rattle.fab_model.specs.declared.rows.Lid.{Lid}
use Rattle.fab_model.specs.Topology.{Topology}
use Rattle.fab_model.specs.Connected.{IsConnectedTo}
use Rattle.fab_tables.specs.declared.verdict.VirtualChannel.{VirtualChannel}
use Rattle.fab_tables.specs.declared.verdict.Verdict.{Verdict}
use Rattle.fab_tables.specs.declared.verdict.Verdict.TheVariants.{Routes, Lanes, Unreached, NoLevel, BadLane, NoNumber, NotRising}
use Rattle.fab_tables.specs.Entries.{Entries}
use Rattle.fab_tables.specs.LaneTables.{LaneTables}
use Rattle.fab_tables.specs.Fit.{IsSource}
use Rattle.fab_tables.specs.Certified.{number_of}
use Rattle.fab_tables.specs.First.{IsFirst}
use Rattle.fab_tables.specs.Verdicts.{Leaves, IsLaneFaultAt, IsFaultAt, IsStructural}
use Rattle.fab_tables.specs.Plain.{plain_channels}

-- at the hop of this count, on the route from the source to the LID, a packet takes this virtual channel
pub record IsPlainHop (t : Topology) (e : Entries) (l : LaneTables) (lid source hop : ℕ) (v : VirtualChannel) : Type 0 where
  pub of_source : IsSource t source
  pub connected : IsConnectedTo t source lid
  pub at_hop : slice_get (plain_channels t e l source lid) hop ≡ Some v

-- this lane is not below the lane count
abbrev pub IsPlainlyBadLane : Topology → Entries → LaneTables → List ℕ → Lid → SwitchId → SwitchId → Type 0
IsPlainlyBadLane t e l place lid source at = (hop : ℕ) × (v : VirtualChannel) × (place ≡ 1 ∷ lid.0 ∷ source.0 ∷ hop ∷ 0 ∷ [])
    × IsPlainHop t e l lid.0 source.0 hop v × Leaves t v at × (l.count ≤ v.lane)

abbrev pub IsPlainlyUnnumbered : Topology → Entries → LaneTables → List ℕ → Lid → SwitchId → VirtualChannel → Type 0
IsPlainlyUnnumbered t e l place lid source v = (hop : ℕ) × (place ≡ 1 ∷ lid.0 ∷ source.0 ∷ hop ∷ 1 ∷ [])
    × IsPlainHop t e l lid.0 source.0 hop v × (number_of l v ≡ 0)

abbrev pub IsPlainlyNotRising : Topology → Entries → LaneTables → List ℕ → Lid → SwitchId → VirtualChannel → VirtualChannel → ℕ → ℕ → Type 0
IsPlainlyNotRising t e l place lid source v w m n = (hop : ℕ) × (place ≡ 1 ∷ lid.0 ∷ source.0 ∷ suc hop ∷ 2 ∷ [])
    × IsPlainHop t e l lid.0 source.0 hop v × IsPlainHop t e l lid.0 source.0 (suc hop) w
    × (m ≡ number_of l v) × (n ≡ number_of l w) × (n ≤ m)

-- what the lanes have at a place
abbrev pub IsPlainLaneFaultAt : Topology → Entries → LaneTables → List ℕ → Verdict → Type 0
IsPlainLaneFaultAt t e l place (NoLevel lid source) = IsLaneFaultAt t e l place (NoLevel lid source)
IsPlainLaneFaultAt t e l place (BadLane lid source at) = IsPlainlyBadLane t e l place lid source at
IsPlainLaneFaultAt t e l place (NoNumber lid source at) = IsPlainlyUnnumbered t e l place lid source at
IsPlainLaneFaultAt t e l place (NotRising lid source first second first_number second_number) =
    IsPlainlyNotRising t e l place lid source first second first_number second_number
IsPlainLaneFaultAt t e l place _ = ⊥

-- the fault stands at this place; without lanes there are only routes to look at
abbrev pub IsPlainFaultAt : Topology → Entries → Option LaneTables → List ℕ → Verdict → Type 0
IsPlainFaultAt t e lanes place (Unreached lid s end) = IsFaultAt t e lanes place (Unreached lid s end)
IsPlainFaultAt t e lanes place verdict = (l : LaneTables) × (lanes ≡ Some l) × IsPlainLaneFaultAt t e l place verdict

abbrev pub IsPlainVerdict : Topology → Entries → Option LaneTables → Verdict → Type 0
IsPlainVerdict t e lanes Routes = (lanes ≡ None) × ((place : List ℕ) (fault : Verdict) → ¬ IsPlainFaultAt t e lanes place fault)
IsPlainVerdict t e lanes Lanes = IsSome lanes × ((place : List ℕ) (fault : Verdict) → ¬ IsPlainFaultAt t e lanes place fault)
IsPlainVerdict t e lanes fault = IsFirst (IsPlainFaultAt t e lanes) fault

-- the first fault, numbers left aside
abbrev pub IsPlainRefusal : Topology → Entries → LaneTables → Verdict → Type 0
IsPlainRefusal t e l fault = IsFirst (λ place f. IsStructural f × IsPlainFaultAt t e (Some l) place f) fault
