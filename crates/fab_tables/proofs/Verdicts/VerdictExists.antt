-- There is a verdict, and a refusal or no structural fault.
use Rattle.std.proofs.Common.{◌⊎◌, inl, inr, List, ℕ, Option, Some, None, refl}
use Rattle.fab_graph.proofs.Decided.{Decided, equivalent, either}
use Rattle.fab_model.specs.Topology.{Topology, lid_id, switch_id}
use Rattle.fab_model.specs.WellFormed.{IsFabric}
use Rattle.std.specs.Prelude.{slice_index}
use Rattle.fab_tables.specs.declared.verdict.Verdict.{Verdict}
use Rattle.fab_tables.specs.declared.verdict.Verdict.TheVariants.{Routes, Lanes, Unreached, NoLevel, BadLane, NoNumber, NotRising}
use Rattle.fab_tables.specs.Entries.{Entries}
use Rattle.fab_tables.specs.LaneTables.{LaneTables}
use Rattle.fab_tables.specs.Route.{route}
use Rattle.fab_tables.specs.First.{IsFirst}
use Rattle.fab_tables.specs.Verdicts.{IsFaultAt, IsVerdict, IsStructural}
use Rattle.fab_tables.specs.Laws.{VerdictExists, RefusalOrNone}
use Rattle.fab_tables.proofs.Faults.FaultSearch.{Stands, Searched, first_or_none}
use Rattle.fab_tables.proofs.Faults.FaultsDecided.{UnreachedAt, unreached_decided, unreached_is, unreached_small, StructuralAt, NumberedAt, structural_decided, numbered_decided, structural_stands, numbered_stands, kind, structural_small, numbered_small, size}
use Rattle.fab_tables.proofs.Faults.RouteFaults.{IsUnreached, unreached}

pub first_is_verdict : (t : Topology) (e : Entries) (lanes : Option LaneTables) (fault : Verdict) → IsFirst (IsFaultAt t e lanes) fault → IsVerdict t e lanes fault
first_is_verdict t e lanes Routes first = absurd first.1.2
first_is_verdict t e lanes Lanes first = absurd first.1.2
first_is_verdict t e lanes (Unreached lid s end) first = first
first_is_verdict t e lanes (NoLevel lid source) first = first
first_is_verdict t e lanes (BadLane lid source at) first = first
first_is_verdict t e lanes (NoNumber lid source at) first = first
first_is_verdict t e lanes (NotRising lid source first_hop second m n) first = first

module _ (t : Topology) (e : Entries) where
  -- without lanes
  at_place : (place : List ℕ) (f : Verdict) → IsFaultAt t e None place f → UnreachedAt t e place
  at_place place f x = let u : IsUnreached t e place = unreached t e place f x in unreached_is t e place u.0 u.1 u.2 u.3 u.4

  route_decided : (place : List ℕ) → Decided (Stands (IsFaultAt t e None) place)
  route_decided place = equivalent (UnreachedAt t e place) (Stands (IsFaultAt t e None) place)
      (λ u. (Unreached (lid_id (slice_index place 1)) (switch_id (slice_index place 2)) (route t e (slice_index place 2) (slice_index place 1)).end, (u.0, u.1, refl, u.2)))
      (λ s. at_place place s.0 s.1) (unreached_decided t e place)

  -- with lanes
  module _ (l : LaneTables) where
    abbrev Structural : List ℕ → Verdict → Type 0
    Structural place f = IsStructural f × IsFaultAt t e (Some l) place f

    any_stands : (place : List ℕ) → StructuralAt t e l place ⊎ NumberedAt t e l place → Stands (IsFaultAt t e (Some l)) place
    any_stands place (inl s) = let f : Stands Structural place = structural_stands t e l place s in (f.0, f.1.1)
    any_stands place (inr n) = numbered_stands t e l place n

    any_kind : (place : List ℕ) (f : Verdict) → IsFaultAt t e (Some l) place f → StructuralAt t e l place ⊎ NumberedAt t e l place
    any_kind place f x = elim (kind t e l place f x) [ inl s ↦ inl s.1 | inr n ↦ inr n.1 ]

    fault_decided : (place : List ℕ) → Decided (Stands (IsFaultAt t e (Some l)) place)
    fault_decided place = equivalent (StructuralAt t e l place ⊎ NumberedAt t e l place) (Stands (IsFaultAt t e (Some l)) place) (any_stands place) (λ s. any_kind place s.0 s.1)
        (either (StructuralAt t e l place) (NumberedAt t e l place) (structural_decided t e l place) (numbered_decided t e l place))

    structural_kind : (place : List ℕ) (f : Verdict) → Structural place f → StructuralAt t e l place
    structural_kind place f x = elim (kind t e l place f x.1) [ inl s ↦ s.1 | inr n ↦ absurd (n.0 x.0) ]

    refused_decided : (place : List ℕ) → Decided (Stands Structural place)
    refused_decided place = equivalent (StructuralAt t e l place) (Stands Structural place) (structural_stands t e l place) (λ s. structural_kind place s.0 s.1) (structural_decided t e l place)

    refusal_searched : IsFabric t → Searched Structural
    refusal_searched fabric = first_or_none (size t) 6 Structural refused_decided (λ place f x. structural_small t fabric e l place (structural_kind place f x))

  searched : IsFabric t → (lanes : Option LaneTables) → Searched (IsFaultAt t e lanes)
  searched fabric None = first_or_none (size t) 6 (IsFaultAt t e None) route_decided (λ place f x. unreached_small t fabric e place (at_place place f x))
  searched fabric (Some l) = first_or_none (size t) 6 (IsFaultAt t e (Some l)) (fault_decided l)
      (λ place f x. elim (any_kind l place f x) [ inl s ↦ structural_small t fabric e l place s | inr n ↦ numbered_small t fabric e l place n ])

  good : (lanes : Option LaneTables) → ((place : List ℕ) (fault : Verdict) → ¬ IsFaultAt t e lanes place fault) → (v : Verdict) × IsVerdict t e lanes v
  good None none = (Routes, (refl, none))
  good (Some l) none = (Lanes, (refl, none))

  found : (lanes : Option LaneTables) → Searched (IsFaultAt t e lanes) → (v : Verdict) × IsVerdict t e lanes v
  found lanes (inl first) = (first.0, first_is_verdict t e lanes first.0 first.1)
  found lanes (inr none) = good lanes none

pub verdict_exists : VerdictExists
verdict_exists t e lanes fabric = found t e lanes (searched t e fabric lanes)

pub refusal_or_none : RefusalOrNone
refusal_or_none t e l fabric = elim (refusal_searched t e l fabric) [ inl first ↦ inl first | inr none ↦ inr (λ place fault structural x. none place fault (structural, x)) ]
