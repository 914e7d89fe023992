use Rattle.std.proofs.Common.{◌≡◌, ◌+◌, ◌++◌, ◌∷◌, [], arith, sym, subst}
use Rattle.fab_nue.specs.Forests.{AreForests}
use Rattle.fab_nue.proofs.Lanes.Forests.{no_forests, one_forest_more}
use Rattle.fab_nue.proofs.forests.forests_of.Goals as goal

pub loop-lane-init : goal.loop-lane-init
loop-lane-init c = rw c.in_ok-forests.ensures.items (no_forests c.args.fabric.now)

pub loop-lane-preserved : goal.loop-lane-preserved
loop-lane-preserved c =
    let new = c.in_ok-of.field-0 in
    let grown : c.push.new.self.items ≡ c.loop-lane.forests.items ++ new ∷ [] = c.in_ok-push.ensures.items in
    rw grown (one_forest_more c.args.fabric.now c.loop-lane.lane c.loop-lane.forests.items new c.loop-lane.invariant c.in_ok-of.ensures.trees)
