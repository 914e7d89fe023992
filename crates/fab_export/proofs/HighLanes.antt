-- Levels by their marks: whether all are in use, and the least one whose lane is high.
use Rattle.std.proofs.Common.{◌≡◌, ℕ, ◌<◌, ◌≤◌, ◌&&◌, Bool, true, false, List, map, Option, Some, None, sym, ◌∙◌, ap, subst, arith}
use Rattle.std.specs.Prelude.{find, option_map, nat_le, slice_index_or}
use Rattle.std.specs.Bool.{then_some}
use Rattle.std.proofs.lemmas.List.FromFn.{get_or-map-range_with_len}
use Rattle.std.proofs.lemmas.Bool.{le-leb}
use Rattle.fab_model.specs.Topology.{Topology}
use Rattle.fab_tables.specs.Entries.{Entries}
use Rattle.fab_tables.specs.LaneTables.{LaneTables, lane}
use Rattle.fab_export.specs.declared.fault.Unfit.{Unfit}
use Rattle.fab_export.specs.declared.fault.Unfit.TheVariants as unfit
use Rattle.fab_export.specs.LevelsInUse.{all_levels, is_in_use}
use Rattle.fab_export.specs.Unfits.{lane_bound, has_high_lane, high_lane, no_spare}
use Rattle.fab_export.proofs.FirstFound.{NoneBelow, found_here, none_found, all_below, one_below_fails}

module _ (t : Topology) (e : Entries) (l : LaneTables) (used : List Bool) (are : used ≡ map (is_in_use t e l) all_levels) where
  -- a mark tells that the level is in use
  marked : (k : ℕ) → k < 16 → slice_index_or used k false ≡ is_in_use t e l k
  marked k low = ap (λ (xs : List Bool). slice_index_or xs k false) are ∙ get_or-map-range_with_len (is_in_use t e l) 0 16 k k false low (omega arith)

  pub all_used : ((k : ℕ) → k < 16 → slice_index_or used k false ≡ true) → Some unfit.NoSpareLevel ≡ no_spare t e l
  all_used each = ap (λ b. then_some b unfit.NoSpareLevel) (sym (all_below (is_in_use t e l) 16 (λ k low. sym (marked k low) ∙ each k low)))

  pub one_spare : (k : ℕ) → k < 16 → slice_index_or used k false ≡ false → None ≡ no_spare t e l
  one_spare k low off = ap (λ b. then_some b unfit.NoSpareLevel) (sym (one_below_fails (is_in_use t e l) 16 k low (sym (marked k low) ∙ off)))

  -- the test of the loop is that of the definition
  same_test : (bound k : ℕ) → bound ≡ lane_bound l → k < 16 → (slice_index_or used k false && nat_le bound (lane l 0 k)) ≡ has_high_lane t e l k
  same_test bound k is low = ap (λ b. b && nat_le bound (lane l 0 k)) (marked k low) ∙ ap (λ n. is_in_use t e l k && nat_le n (lane l 0 k)) is

  abbrev found_as : Option ℕ → Option Unfit
  found_as found = option_map (λ of_level. unfit.HighLane of_level (lane l 0 of_level) (lane_bound l)) found

  pub no_high : (bound : ℕ) → bound ≡ lane_bound l → NoneBelow (λ k. slice_index_or used k false && nat_le bound (lane l 0 k)) 16 → None ≡ high_lane t e l
  no_high bound is none = sym (ap found_as (none_found (has_high_lane t e l) 16 (λ k low. sym (same_test bound k is low) ∙ none k low)))

  pub high_found : (bound k on_lane : ℕ) → bound ≡ lane_bound l → on_lane ≡ lane l 0 k → k < 16 → NoneBelow (λ k. slice_index_or used k false && nat_le bound (lane l 0 k)) k →
      slice_index_or used k false ≡ true → bound ≤ on_lane → Some (unfit.HighLane k on_lane bound) ≡ high_lane t e l
  high_found bound k on_lane is at low none used_here high =
      let here : (slice_index_or used k false && nat_le bound (lane l 0 k)) ≡ true
      = ap (λ b. b && nat_le bound (lane l 0 k)) used_here ∙ le-leb bound (lane l 0 k) (subst (λ n. bound ≤ n) at high) in
      let found : find (has_high_lane t e l) all_levels ≡ Some k
      = found_here (has_high_lane t e l) 16 k low (λ j below. sym (same_test bound j is (omega (arith, below, low))) ∙ none j below) (sym (same_test bound k is low) ∙ here) in
      ap (λ n. Some (unfit.HighLane k n bound)) at ∙ ap (λ n. Some (unfit.HighLane k (lane l 0 k) n)) is ∙ sym (ap found_as found)
