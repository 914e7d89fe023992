-- The written map is that of every switch.
use Rattle.std.proofs.Common.{◌≡◌, ℕ, ◌<◌, min, Bool, true, false, List, [], length, Some, None, refl, sym, ◌∙◌, ap, subst, arith}
use Rattle.std.specs.Prelude.{find, not, nat_le, unwrap_or, slice_get, if◌then◌else◌, IfSome, ◌==◌}
use Rattle.std.specs.List.{list_all, range_with_len}
use Rattle.std.proofs.lemmas.Bool.{eqb-true, leb-false, not-false, not-true}
use Rattle.std.proofs.Math.Nat.{min-le_right}
use Rattle.fab_model.specs.Topology.{Topology, lids_of, switch_id}
use Rattle.fab_model.proofs.Lists.Members.{In, in_filter, from_filter, from_list_any}
use Rattle.fab_model.proofs.Lists.Found.{in_range}
use Rattle.fab_tables.specs.declared.lanes.PairRow.{PairRow}
use Rattle.fab_tables.specs.declared.plan.Plan.{Plan}
use Rattle.fab_tables.specs.declared.verdict.Verdict.{Verdict}
use Rattle.fab_tables.specs.Entries.{Entries}
use Rattle.fab_tables.specs.LaneTables.{LaneTables, AreLaneTables, level, lane, lane_at, lane_of_pair, is_pair}
use Rattle.fab_tables.specs.Fit.{PlanFits, LanesFit}
use Rattle.fab_tables.proofs.Rows.LevelsLow.{level_low}
use Rattle.fab_export.specs.declared.part.Part.{Part}
use Rattle.fab_export.specs.declared.fault.Unfit.TheVariants as unfit
use Rattle.fab_export.specs.Reached.{is_reached}
use Rattle.fab_export.specs.LevelsInUse.{sources, level_to, has_level, is_level_of, is_in_use, all_levels, other_levels, written_lane, spare_level}
use Rattle.fab_export.specs.Unfits.{own_map, has_first_map, other_map, lane_bound, has_high_lane, high_lane, no_level_0, no_spare}
use Rattle.fab_export.specs.Laws.{IsMapOf, MapIsOfPlan}
use Rattle.fab_export.proofs.NoRows.{HasNoRow, rows_of_fit}
use Rattle.fab_export.proofs.ListTests.{second_false, not_some, chosen_if, other_if, none_behind, not_mapped, nothing_there, same_level, find_fails, all_pass, not_all, last_there}

-- the lanes of a plan that fits
pub lanes_fit : (t : Topology) (p : Plan) (l : LaneTables) → PlanFits t p → p.lanes ≡ Some l → LanesFit t l
lanes_fit t p l fits is = subst (λ o. IfSome o (LanesFit t)) is fits.lanes

-- a level that a source has for a LID that it reaches
pub level_there : (t : Topology) (e : Entries) (l : LaneTables) (s lid n : ℕ) → level_to t e l s lid ≡ Some n → (is_reached t e s lid ≡ true) × (level l s lid ≡ Some n)
level_there t e l s lid n is = go (is_reached t e s lid) is
  where
    go : (b : Bool) → (if b then level l s lid else None) ≡ Some n → (b ≡ true) × (level l s lid ≡ Some n)
    go true x = (refl, x)
    go false x = absurd (cc)

-- who has a level in use
pub user_of : (t : Topology) (e : Entries) (l : LaneTables) (n : ℕ) → is_in_use t e l n ≡ true → (s : ℕ) × (lid : ℕ) × In s (sources t) × In lid (lids_of t) × (level_to t e l s lid ≡ Some n)
user_of t e l n is =
    let one = from_list_any (λ s. is_level_of t e l s n) (sources t) is in
    let two = from_list_any (has_level t e l n one.0) (lids_of t) one.2 in
    (one.0, two.0, one.1, two.1, same_level (level_to t e l one.0 two.0) n two.2)

pub in_use_low : (t : Topology) (e : Entries) (l : LaneTables) (n : ℕ) → AreLaneTables l → is_in_use t e l n ≡ true → n < 16
in_use_low t e l n are is =
    let user = user_of t e l n is in level_low l user.0 user.1 n are (level_there t e l user.0 user.1 n user.4).1

is_level : (n : ℕ) → n < 16 → In n all_levels
is_level n low = in_range 0 16 n (omega arith) (omega arith)

module _ (t : Topology) (p : Plan) (l : LaneTables) (fits : PlanFits t p) (some : p.lanes ≡ Some l) where
  are : AreLaneTables l
  are = (lanes_fit t p l fits some).whole

  module _ (of_part : Part) (verdict : Verdict) (row : HasNoRow t p of_part verdict) where
    no_pair : l.pairs ≡ []
    no_pair = nothing_there l.pairs (not_mapped (λ (r : PairRow). unfit.PairMap r.switch r.from_port r.to_port) (slice_get l.pairs 0) (none_behind own_map p.lanes l some row.no_own_map))

    -- every switch has the first one's map
    same_map : (s n : ℕ) → s < length t.switches → n < 16 → lane l s n ≡ lane l 0 n
    same_map s n low small =
        eqb-true (lane l s n) (lane l 0 n) (all_pass (λ n. lane l s n == lane l 0 n) all_levels (not-false (has_first_map l s) here) n (is_level n small))
      where
        none : find (λ s. not (has_first_map l s)) (range_with_len 0 (length t.switches)) ≡ None
        none = not_mapped (λ s. unfit.MapDiffers (switch_id s)) (find (λ s. not (has_first_map l s)) (range_with_len 0 (length t.switches))) (none_behind (other_map t) p.lanes l some row.one_map)

        here : not (has_first_map l s) ≡ false
        here = find_fails (λ s. not (has_first_map l s)) (range_with_len 0 (length t.switches)) none s (in_range 0 (length t.switches) s (omega arith) (omega (arith, low)))

    -- without pairs the general map holds, whatever the ports
    general : (s from to n : ℕ) → lane_at l s from to n ≡ lane l s n
    general s from to n = ap (λ (rows : List PairRow). lane_of_pair (find (is_pair s from to) rows) n (lane l s n)) no_pair

    written : (s from to n : ℕ) → s < length t.switches → is_in_use t p.tables l n ≡ true → lane_at l s from to n ≡ written_lane t p.tables l n
    written s from to n low used =
        general s from to n ∙ same_map s n low (in_use_low t p.tables l n are used) ∙ sym (chosen_if (is_in_use t p.tables l n) (lane l 0 n) 15 used)

    low_lane : (n : ℕ) → is_in_use t p.tables l n ≡ true → written_lane t p.tables l n < 8
    low_lane n used =
        let none : find (has_high_lane t p.tables l) all_levels ≡ None
        = not_mapped (λ n. unfit.HighLane n (lane l 0 n) (lane_bound l)) (find (has_high_lane t p.tables l) all_levels) (none_behind (high_lane t p.tables) p.lanes l some row.low_lanes) in
        let here : has_high_lane t p.tables l n ≡ false = find_fails (has_high_lane t p.tables l) all_levels none n (is_level n (in_use_low t p.tables l n are used)) in
        let below : lane l 0 n < min l.count 8 = leb-false (lane_bound l) (lane l 0 n) (second_false (is_in_use t p.tables l n) (nat_le (lane_bound l) (lane l 0 n)) used here) in
        let same : written_lane t p.tables l n ≡ lane l 0 n = chosen_if (is_in_use t p.tables l n) (lane l 0 n) 15 used in
        omega (arith, below, same, min-le_right l.count 8)

    level_0 : is_in_use t p.tables l 0 ≡ true
    level_0 = not-false (is_in_use t p.tables l 0) (not_some (not (is_in_use t p.tables l 0)) unfit.NoLevelZero (none_behind (no_level_0 t p.tables) p.lanes l some row.level_0))

    -- the spare level is one of the others
    pub spare_there : In (spare_level t p.tables l) (other_levels t p.tables l)
    spare_there =
        let one = not_all (is_in_use t p.tables l) all_levels (not_some (list_all (is_in_use t p.tables l) all_levels) unfit.NoSpareLevel (none_behind (no_spare t p.tables) p.lanes l some row.spare)) in
        let last = last_there None (other_levels t p.tables l) one.0 (in_filter (λ n. not (is_in_use t p.tables l n)) all_levels one.0 one.1 (ap not one.2)) in
        subst (λ n. In n (other_levels t p.tables l)) (sym (ap (λ o. unwrap_or o 0) last.1)) last.2

    pub spare_unused : is_in_use t p.tables l (spare_level t p.tables l) ≡ false
    spare_unused = not-true (is_in_use t p.tables l (spare_level t p.tables l)) (from_filter (λ n. not (is_in_use t p.tables l n)) all_levels (spare_level t p.tables l) spare_there).1

    pub is_map : IsMapOf t p.tables l
    is_map = record {
      in_use = written;
      low = low_lane;
      dropped = λ n unused. other_if (is_in_use t p.tables l n) (lane l 0 n) 15 unused;
      level_0 = level_0;
      spare = spare_unused;
    }

pub map_is_of_plan : MapIsOfPlan
map_is_of_plan t p l of_part kept fits some fit = is_map t p l fits some of_part fit.0 (rows_of_fit t p of_part fit.0 fit.2)
