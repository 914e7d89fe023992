use Rattle.std.proofs.Common.{◌<◌, length, get_or, ◌∙◌, ap, arith}
use Rattle.fab_tables.specs.LaneTables.{LaneTables, with_lane}
use Rattle.fab_dump.proofs.Reading.LaneMaps.{one_lane_more}
use Rattle.fab_dump.proofs.statements.set_map.Goals as goal

pub loop-level-preserved : goal.loop-level-preserved
loop-level-preserved c =
    let map = c.args.map.now in
    let level = c.loop-level.level in
    let switch = c.args.switch.0 in
    let within : level < length map = omega arith in
    record {
      lanes = c.set_lane.ensures ∙ ap (λ (l : LaneTables). with_lane l switch level (get_or map c.from.result 0)) c.loop-level.invariant.lanes
          ∙ one_lane_more c.args.lanes.now switch level map (get_or map c.from.result 0) within (ap (λ k. get_or map k 0) c.from.ensures);
      switches = ap (λ (l : LaneTables). l.switches) c.set_lane.ensures ∙ c.loop-level.invariant.switches;
    }
