-- A reason against exporting can be told: the level and the lanes that it names have at most two digits.
use Rattle.std.proofs.Common.{◌≡◌, ℕ, zero, suc, ◌<◌, ◌&&◌, Bool, true, false, List, [], ◌∷◌, length, Option, None, Some, refl, sym, subst, arith, IfSome}
use Rattle.std.specs.Prelude.{◌==◌, not, map, find, option_map, option_and_then, slice_get, if◌then◌else◌}
use Rattle.std.specs.Bool.{then_some}
use Rattle.std.specs.List.{range_with_len, list_all}
use Rattle.std.specs.Option.{option_or}
use Rattle.fab_model.specs.Faults.{first_of}
use Rattle.fab_model.specs.Topology.{Topology, lids_of, lid_id, switch_id}
use Rattle.fab_tables.specs.declared.plan.Plan.{Plan}
use Rattle.fab_tables.specs.declared.lanes.PairRow.{PairRow}
use Rattle.fab_tables.specs.declared.verdict.Verdict.{Verdict}
use Rattle.fab_tables.specs.declared.verdict.Verdict.TheVariants.{Routes, Lanes, Unreached, NoLevel, BadLane, NoNumber, NotRising}
use Rattle.fab_tables.specs.Entries.{Entries}
use Rattle.fab_tables.specs.Fit.{PlanFits, LanesFit}
use Rattle.fab_tables.specs.LaneTables.{LaneTables, lane}
use Rattle.fab_tables.specs.Verdicts.{IsVerdict}
use Rattle.fab_export.specs.declared.part.Part.{Part}
use Rattle.fab_export.specs.declared.part.Part.TheVariants as part
use Rattle.fab_export.specs.declared.fault.Unfit.{Unfit}
use Rattle.fab_export.specs.declared.fault.Unfit.TheVariants as unfit
use Rattle.fab_export.specs.LevelsInUse.{sources, all_levels, is_in_use}
use Rattle.fab_export.specs.PortGuids.{port_guid}
use Rattle.fab_export.specs.Unfits.{refused, repeats_port_guid, port_guid_fault, bad_port_guid, is_too_far, too_far_from, too_far, own_map, has_first_map, other_map, lane_bound, has_high_lane, high_lane, no_level_0, no_spare, no_lanes, unfit_after}
use Rattle.fab_model.proofs.Lists.Members.{In}
use Rattle.fab_model.proofs.Lists.Found.{from_find, from_range}
use Rattle.fab_top.specs.ExportTexts.{CanBeTold}
use Rattle.fab_top.specs.Texts.{HasShortLanes}
use Rattle.fab_top.proofs.Judging.{short_lanes, lane_small}

-- the reason, if there is one, can be told
abbrev IfTold : Option Unfit → Type 0
IfTold found = IfSome found CanBeTold

-- ---- the first of some

first_told : (first rest : Option Unfit) → IfTold first → IfTold rest → IfTold (option_or first rest)
first_told None rest one others = others
first_told (Some reason) rest one others = one

first_of_told : {X : Type 0} (reason : X → Option Unfit) (xs : List X) → ((x : X) → IfTold (reason x)) → IfTold (first_of (map reason xs))
first_of_told reason [] each = tt
first_of_told reason (x ∷ xs) each = first_told (reason x) (first_of (map reason xs)) (each x) (first_of_told reason xs each)

told_if : (b : Bool) (reason : Unfit) → CanBeTold reason → IfTold (then_some b reason)
told_if true reason can = can
told_if false reason can = tt

told_map : {X : Type 0} (make : X → Unfit) (o : Option X) → ((x : X) → o ≡ Some x → CanBeTold (make x)) → IfTold (option_map make o)
told_map make None each = tt
told_map make (Some x) each = each x refl

told_then : {X : Type 0} (reason : X → Option Unfit) (o : Option X) → ((x : X) → o ≡ Some x → IfTold (reason x)) → IfTold (option_and_then reason o)
told_then reason None each = tt
told_then reason (Some x) each = each x refl

-- ---- each row

refused_told : (t : Topology) (p : Plan) (v : Verdict) → PlanFits t p → IsVerdict t p.tables p.lanes v → IfTold (refused v)
refused_told t p Routes fits is = tt
refused_told t p Lanes fits is = tt
refused_told t p (Unreached lid s end) fits is = tt
refused_told t p (NoLevel lid s) fits is = tt
refused_told t p (BadLane lid s at) fits is = tt
refused_told t p (NoNumber lid s at) fits is = short_lanes t p (NoNumber lid s at) fits is
refused_told t p (NotRising lid s v w m n) fits is = short_lanes t p (NotRising lid s v w m n) fits is

port_guid_told : (t : Topology) (lid : ℕ) → IfTold (port_guid_fault t lid)
port_guid_told t lid = go (port_guid t lid == 0)
  where
    go : (b : Bool) → IfTold (if b then Some (unfit.NoPortGuid (lid_id lid)) else then_some (repeats_port_guid t lid) (unfit.TwicePortGuid (lid_id lid) (port_guid t lid)))
    go true = tt
    go false = told_if (repeats_port_guid t lid) (unfit.TwicePortGuid (lid_id lid) (port_guid t lid)) tt

too_far_told : (t : Topology) (e : Entries) (lid : ℕ) → IfTold (too_far_from t e lid)
too_far_told t e lid = told_map (λ s. unfit.TooFar (lid_id lid) (switch_id s)) (find (is_too_far t e lid) (sources t)) (λ s is. tt)

own_map_told : (l : LaneTables) → IfTold (own_map l)
own_map_told l = told_map (λ (row : PairRow). unfit.PairMap row.switch row.from_port row.to_port) (slice_get l.pairs 0) (λ row is. tt)

other_map_told : (t : Topology) (l : LaneTables) → IfTold (other_map t l)
other_map_told t l = told_map (λ s. unfit.MapDiffers (switch_id s)) (find (λ s. not (has_first_map l s)) (range_with_len 0 (length t.switches))) (λ s is. tt)

high_lane_told : (t : Topology) (e : Entries) (l : LaneTables) → LanesFit t l → IfTold (high_lane t e l)
high_lane_told t e l fits =
    told_map (λ of_level. unfit.HighLane of_level (lane l 0 of_level) (lane_bound l)) (find (has_high_lane t e l) all_levels)
    (λ of_level is. (below of_level (from_find (has_high_lane t e l) all_levels of_level is).0, omega (arith, lane_small l 0 of_level fits.whole)))
  where
    below : (of_level : ℕ) → In of_level all_levels → of_level < 100
    below of_level within = let low = from_range 0 16 of_level within in omega (arith, low)

no_lanes_told : (of_part : Part) (lanes : Option LaneTables) → IfTold (no_lanes of_part lanes)
no_lanes_told part.Tables lanes = tt
no_lanes_told part.Levels None = tt
no_lanes_told part.Levels (Some l) = tt
no_lanes_told part.Config lanes = tt

fits_of : (t : Topology) (lanes : Option LaneTables) (l : LaneTables) → IfSome lanes (LanesFit t) → lanes ≡ Some l → LanesFit t l
fits_of t lanes l fits is = let P : Option LaneTables → Type 0 = λ o. IfSome o (LanesFit t) in subst P is fits

-- ---- the table

pub reason_told : (t : Topology) (p : Plan) (of_part : Part) (v : Verdict) → PlanFits t p → IsVerdict t p.tables p.lanes v → IfTold (unfit_after v t p of_part)
unfolding unfit_after
reason_told t p of_part v fits is =
    first_told (refused v) _ (refused_told t p v fits is)
    (first_told (bad_port_guid t) _ (first_of_told (port_guid_fault t) (lids_of t) (port_guid_told t))
    (first_told (too_far t p.tables) _ (first_of_told (too_far_from t p.tables) (lids_of t) (too_far_told t p.tables))
    (first_told (option_and_then own_map p.lanes) _ (told_then own_map p.lanes (λ l some. own_map_told l))
    (first_told (option_and_then (other_map t) p.lanes) _ (told_then (other_map t) p.lanes (λ l some. other_map_told t l))
    (first_told (option_and_then (high_lane t p.tables) p.lanes) _ (told_then (high_lane t p.tables) p.lanes (λ l some. high_lane_told t p.tables l (fits_of t p.lanes l fits.lanes some)))
    (first_told (option_and_then (no_level_0 t p.tables) p.lanes) _ (told_then (no_level_0 t p.tables) p.lanes (λ l some. told_if (not (is_in_use t p.tables l 0)) unfit.NoLevelZero tt))
    (first_told (option_and_then (no_spare t p.tables) p.lanes) _ (told_then (no_spare t p.tables) p.lanes (λ l some. told_if (list_all (is_in_use t p.tables l) all_levels) unfit.NoSpareLevel tt))
    (first_told (no_lanes of_part p.lanes) None (no_lanes_told of_part p.lanes) tt))))))))
