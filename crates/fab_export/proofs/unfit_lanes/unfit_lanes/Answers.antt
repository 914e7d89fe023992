use Rattle.std.proofs.Common.{◌∙◌, ap, length}
use Rattle.fab_model.specs.Topology.{Topology}
use Rattle.fab_export.proofs.UnfitRows.{first_of_five}
use Rattle.fab_export.proofs.unfit_lanes.unfit_lanes.Goals as goal

pub returns : goal.returns
returns c =
    let t = c.args.reached.now.fabric in
    let e = c.args.reached.now.entries in
    let used = c.used_levels-used.ensures in
    first_of_five _ _ _ _ _ _ _ _ _ _ _ _ _ _ c.own_map.ensures (c.other_map.ensures t (c.switches.ensures.count ∙ ap (λ (u : Topology). length u.switches) c.fabric.ensures.fabric)) (c.high_lane.ensures t e used)
    (c.no_level_zero.ensures t e c.args.lanes.now used) (c.no_spare.ensures t e c.args.lanes.now used) c.or.ensures c.or-2.ensures c.or-3.ensures c.or-4.ensures
