-- Counts of lanes and of virtual channels are small.
use Rattle.std.proofs.Common.{◌≡◌, ℕ, ◌*◌, ◌^◌, ◌<◌, ◌≤◌, length, Some, None, Option, arith}
use Rattle.std.specs.Prelude.{IfSome}
use Rattle.std.proofs.lemmas.Option.{same_Some}
use Rattle.std.proofs.Math.Nat.{mul-le-mul_left}
use Rattle.fab_model.specs.Topology.{Topology}
use Rattle.fab_model.specs.WellFormed.{IsFabric}
use Rattle.fab_tables.specs.LaneTables.{LaneTables}
use Rattle.fab_tables.specs.Fit.{LanesFit, PlanFits}
use Rattle.fab_tables.specs.Reading.{count_read, level_read}
use Rattle.fab_tables.proofs.Rows.LevelsLow.{level_low}
use Rattle.fab_transit.specs.declared.mixed.Side.{Side}
use Rattle.fab_transit.specs.declared.mixed.Side.TheVariants.{Old, New}
use Rattle.fab_transit.specs.MixedWalks.{Change, plan_of, bound}
use Rattle.fab_transit.specs.Changing.{Changing, IsChanging}

count_low : (t : Topology) (o : Option LaneTables) → IfSome o (LanesFit t) → (0 < count_read o) × (count_read o ≤ 15)
count_low t None h = (omega arith, omega arith)
count_low t (Some l) h = h.whole.count

pub bound_low : (t : Topology) (m : Change) → PlanFits t m.before → PlanFits t m.after → (0 < bound m) × (bound m ≤ 15)
bound_low t m a b =
    let x : (0 < count_read m.before.lanes) × (count_read m.before.lanes ≤ 15) = count_low t m.before.lanes a.lanes in
    let y : (0 < count_read m.after.lanes) × (count_read m.after.lanes ≤ 15) = count_low t m.after.lanes b.lanes in
    (omega (arith, x.0, y.0), omega (arith, x.1, y.1))

pub nodes_few : (t : Topology) (b : ℕ) → IsFabric t → b ≤ 15 → length t.channels * b < 2 ^ 28
nodes_few t b fabric few = omega (arith, fabric.rows.channel_count, mul-le-mul_left (length t.channels) few)

pub lanes_few : (g : Changing) → IsChanging g → bound g.change ≤ 15
lanes_few g is = (bound_low g.fabric g.change is.before is.after).1

pub change_few : (g : Changing) → IsChanging g → length g.fabric.channels * bound g.change < 2 ^ 28
change_few g is = nodes_few g.fabric (bound g.change) is.fabric (lanes_few g is)

read_low : (t : Topology) (o : Option LaneTables) (s lid n : ℕ) → IfSome o (LanesFit t) → level_read o s lid ≡ Some n → n < 16
read_low t None s lid n fits is = low n is
  where
    low : (n : ℕ) → Some 0 ≡ Some n → n < 16
    low n e = omega (arith, same_Some 0 n e)
read_low t (Some l) s lid n fits is = level_low l s lid n fits.whole is

-- a level that a plan gives is one of the 16
pub level_small : (g : Changing) → IsChanging g → (side : Side) (s lid n : ℕ) → level_read (plan_of g.change side).lanes s lid ≡ Some n → n < 16
level_small g are Old s lid n is = read_low g.fabric g.change.before.lanes s lid n are.before.lanes is
level_small g are New s lid n is = read_low g.fabric g.change.after.lanes s lid n are.after.lanes is
