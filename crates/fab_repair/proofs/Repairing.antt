-- What repairs owe: the old plan can be handed to Nue, and what is left of the fabric.
use Rattle.std.proofs.Common.{◌≡◌, ℕ, false, List, [], ◌∷◌, length, refl, sym, ◌∙◌, ap, subst, Option, Some, None, Result, Ok, Err}
use Rattle.std.specs.Prelude.{IfSome, filter, position, not}
use Rattle.fab_text.specs.Readings.{Unless}
use Rattle.fab_model.specs.declared.rows.Cable.{Cable}
use Rattle.fab_model.specs.declared.rows.ChannelRow.{ChannelRow}
use Rattle.fab_model.specs.declared.fault.WithoutFault.{WithoutFault}
use Rattle.fab_model.specs.declared.fault.WithoutFault.TheVariants as lost
use Rattle.fab_model.specs.Topology.{Topology, lids_of}
use Rattle.fab_model.specs.Connected.{IsConnectedTo}
use Rattle.fab_model.specs.WellFormed.{IsFabric}
use Rattle.fab_model.specs.Without.{is_unknown, unless_unknown, taken_out, without_cables, wants_memory}
use Rattle.fab_model.proofs.Without.{without_is_fabric}
use Rattle.fab_tables.specs.declared.plan.Plan.{Plan}
use Rattle.fab_tables.specs.LaneTables.{LaneTables, level}
use Rattle.fab_tables.specs.Fit.{LanesFit, PlanFits, IsSource}
use Rattle.fab_nue.specs.Kept.{HasSwitchesAndLids, old_level}
use Rattle.fab_nue.specs.NuePlan.{IsNueLevel}
use Rattle.fab_nue.proofs.Plans.OverEscape.{one_nue_plan}
use Rattle.fab_repair.specs.declared.fault.RepairFault.{RepairFault}
use Rattle.fab_repair.specs.Faults.{repair_fault}
use Rattle.fab_repair.specs.Repairs.{GivesFabric}
use Rattle.fab_repair.specs.Laws.{NothingFailed, OneRepair, KeptStay}
use Rattle.std.proofs.Common.{inl, inr}

-- ---- what is left

made_is : {X : Type 0} (unknown : Option ℕ) (wanted made : X) → unless_unknown unknown wanted ≡ Ok made → wanted ≡ made
made_is None wanted made e = cc
made_is (Some index) wanted made e = cc

pub left_is : (t left : Topology) (cables : List Cable) → taken_out t cables ≡ Ok left → without_cables t cables ≡ left
left_is t left cables e = made_is (position (is_unknown t) cables) (without_cables t cables) left e

pub left_fabric : (t left : Topology) (cables : List Cable) → IsFabric t → taken_out t cables ≡ Ok left → IsFabric left
left_fabric t left cables fabric e = subst IsFabric (left_is t left cables e) (without_is_fabric t cables fabric)

-- ---- the old plan has its switches and LIDs

lanes_switches : (t : Topology) (o : Option LaneTables) → IfSome o (LanesFit t) → IfSome o (λ l. l.switches ≡ length t.switches)
lanes_switches t None fits = tt
lanes_switches t (Some l) fits = fits.switches

lanes_in_use : (t : Topology) (o : Option LaneTables) → IfSome o (LanesFit t) → IfSome o (λ l. l.in_use ≡ lids_of t)
lanes_in_use t None fits = tt
lanes_in_use t (Some l) fits = fits.in_use

pub still_has : (t : Topology) (cables : List Cable) (p : Plan) → PlanFits t p → HasSwitchesAndLids (without_cables t cables) p
still_has t cables p fits = record {
  tables = record { whole = fits.tables.whole; switches = fits.tables.switches; in_use = fits.tables.in_use };
  switches = lanes_switches t p.lanes fits.lanes;
  in_use = lanes_in_use t p.lanes fits.lanes;
}

pub left_has : (t left : Topology) (cables : List Cable) (p : Plan) → taken_out t cables ≡ Ok left → PlanFits t p → HasSwitchesAndLids left p
left_has t left cables p e fits = subst (λ x. HasSwitchesAndLids x p) (left_is t left cables e) (still_has t cables p fits)

-- ---- refusals

pub refused : (without : WithoutFault) (fault : RepairFault) (wanted : Result Topology WithoutFault) → fault ≡ repair_fault without → Unless (wants_memory without) (wanted ≡ Err without) → GivesFabric (Err fault) wanted
refused (lost.UnknownCable index) fault wanted is told = subst (λ f. GivesFabric (Err f) wanted) (sym is) told
refused (lost.Memory want) fault wanted is told = subst (λ f. GivesFabric (Err f) wanted) (sym is) tt

-- ---- laws

all_stay : (xs : List ChannelRow) → filter (λ (row : ChannelRow). not false) xs ≡ xs
all_stay [] = refl
all_stay (x ∷ xs) = ap (λ ys. x ∷ ys) (all_stay xs)

pub nothing_failed : NothingFailed
nothing_failed t = ap (λ rows. Ok (record t { channels = rows })) (all_stay t.channels)

pub one_repair : OneRepair
one_repair t left old cables lanes kept others p q fabric some e x y =
    one_nue_plan left lanes (Some old) kept others p q (left_fabric t left cables fabric e).rows some x y

pub kept_stay : KeptStay
kept_stay left old lanes kept p lid x has = record {
  entries = λ s joined. x.2.tables.of_kept s lid has joined;
  levels = levels;
  apart = λ s apart. x.2.tables.fixed.apart s lid apart;
}
  where
    levels : (s : ℕ) → IsSource left s → IsConnectedTo left s lid → old_level p.lanes s lid ≡ old_level old.lanes s lid
    levels s source joined = go (x.2.plan.levels.levels s lid source joined)
      where
        of_kept : (n : ℕ) → IsNueLevel left lanes (Some old) kept s lid n → old_level old.lanes s lid ≡ Some n
        of_kept n (inl own) = own.1
        of_kept n (inr other) = absurd (other.0 has)

        go : (n : ℕ) × IsNueLevel left lanes (Some old) kept s lid n × (level x.2.plan.lanes s lid ≡ Some n) → old_level p.lanes s lid ≡ old_level old.lanes s lid
        go given = ap (λ o. old_level o s lid) x.2.plan.has_lanes ∙ given.2 ∙ sym (of_kept given.0 given.1)
