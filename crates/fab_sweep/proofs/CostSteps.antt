-- Counts grow by one where a test passes.
use Rattle.std.proofs.Common.{◌≡◌, ℕ, ◌+◌, ◌≤◌, Bool, true, false, not, ◌&&◌, cond, Some, sym, ap, arith}
use Rattle.fab_model.specs.declared.rows.Place.{Place}
use Rattle.fab_model.specs.Topology.{Topology, place_of, is_source}
use Rattle.fab_tables.specs.LaneTables.{LaneTables}
use Rattle.std.specs.Prelude.{Option}
use Rattle.fab_nue.specs.Kept.{old_level}
use Rattle.fab_sweep.specs.Sweeps.{to_place, is_lost, is_moved, same_level, count_below}
use Rattle.fab_sweep.proofs.Pairs.{count_more}

at_most_one : (b : Bool) → cond b 1 0 ≤ 1
at_most_one true = omega arith
at_most_one false = omega arith

pub one_more : (test : ℕ → ℕ → Bool) (lid s : ℕ) (b : Bool) → b ≡ test s lid → (n m : ℕ) → n ≡ count_below test lid s → m ≡ cond b 1 0 → n + m ≡ count_below test lid (s + 1)
one_more test lid s b same n m so_far is = omega (arith, so_far, is, ap {B = ℕ} (λ v. cond v 1 0) same, count_more test lid s)

pub few_more : (b : Bool) (n m s : ℕ) → n ≤ s → m ≡ cond b 1 0 → n + m ≤ s + 1
few_more b n m s low is = omega (arith, low, is, at_most_one b)

pub lost_at : (t : Topology) (was is : ℕ → ℕ → Bool) (s lid : ℕ) (place : Place) → place_of t lid ≡ Some place → (was s place.switch.0 && not (is s place.switch.0)) ≡ is_lost t was is s lid
lost_at t was is s lid place at = sym (ap (λ o. to_place was s o && not (to_place is s o)) at)

pub moved_at : (t : Topology) (is : ℕ → ℕ → Bool) (old new : Option LaneTables) (s lid : ℕ) (place : Place) → place_of t lid ≡ Some place →
    (is_source t s && is s place.switch.0 && not (same_level (old_level old s lid) (old_level new s lid))) ≡ is_moved t is old new s lid
moved_at t is old new s lid place at = sym (ap (λ o. is_source t s && to_place is s o && not (same_level (old_level old s lid) (old_level new s lid))) at)
