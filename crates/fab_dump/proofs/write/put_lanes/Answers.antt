use Rattle.std.proofs.Common.{[], ◌∷◌}
use Rattle.std.specs.Prelude.{codes}
use Rattle.std.specs.List.{flat_map, enumerate_from}
use Rattle.std.proofs.lemmas.Result.{err_from_is_err_and}
use Rattle.fab_dump.specs.Writing.{levels_block, map_block, number_lines, lane_lines}
use Rattle.fab_dump.proofs.Writing.Parts.{lane_parts, stopped_in_first, stopped_in_second, stopped_in_third, four_put}
use Rattle.fab_dump.proofs.write.put_lanes.Goals as goal

pub returns-in_err-put_levels : goal.returns-in_err-put_levels
returns-in_err-put_levels g c =
    let p = err_from_is_err_and c.from_residual.result c.from_residual.ensures.1 in
    rw (p.1, p.2) (stopped_in_first (flat_map (levels_block c.args.fabric.now c.args.lanes.now) (enumerate_from 0 c.args.fabric.now.switches)) (flat_map (map_block c.args.lanes.now) (enumerate_from 0 c.args.fabric.now.switches)) (codes "Certificate:" ∷ []) (flat_map (number_lines c.args.fabric.now c.args.lanes.now) (enumerate_from 0 c.args.fabric.now.channels)) (lane_lines c.args.fabric.now c.args.lanes.now) (lane_parts c.args.fabric.now c.args.lanes.now)
    c.in_err-put_levels.field-0.0 c.in_err-put_levels.ensures)

pub returns-in_err-put_maps : goal.returns-in_err-put_maps
returns-in_err-put_maps g c =
    let p = err_from_is_err_and c.from_residual-in_err-put_maps.result c.from_residual-in_err-put_maps.ensures.1 in
    rw (p.1, p.2) (stopped_in_second (flat_map (levels_block c.args.fabric.now c.args.lanes.now) (enumerate_from 0 c.args.fabric.now.switches)) (flat_map (map_block c.args.lanes.now) (enumerate_from 0 c.args.fabric.now.switches)) (codes "Certificate:" ∷ []) (flat_map (number_lines c.args.fabric.now c.args.lanes.now) (enumerate_from 0 c.args.fabric.now.channels)) (lane_lines c.args.fabric.now c.args.lanes.now) (lane_parts c.args.fabric.now c.args.lanes.now)
    c.in_ok-put_levels.ensures c.in_err-put_maps.field-0.0 c.in_err-put_maps.ensures)

pub returns-in_err-put : goal.returns-in_err-put
returns-in_err-put g c =
    let p = err_from_is_err_and c.from_residual-in_err-put.result c.from_residual-in_err-put.ensures.1 in
    rw (p.1, p.2) (stopped_in_third (flat_map (levels_block c.args.fabric.now c.args.lanes.now) (enumerate_from 0 c.args.fabric.now.switches)) (flat_map (map_block c.args.lanes.now) (enumerate_from 0 c.args.fabric.now.switches)) (codes "Certificate:" ∷ []) (flat_map (number_lines c.args.fabric.now c.args.lanes.now) (enumerate_from 0 c.args.fabric.now.channels)) (lane_lines c.args.fabric.now c.args.lanes.now) (lane_parts c.args.fabric.now c.args.lanes.now)
    c.in_ok-put_levels.ensures c.in_ok-put_maps.ensures c.in_err-put.field-0.0 c.in_err-put.ensures)

pub returns : goal.returns
returns g c = four_put (flat_map (levels_block c.args.fabric.now c.args.lanes.now) (enumerate_from 0 c.args.fabric.now.switches)) (flat_map (map_block c.args.lanes.now) (enumerate_from 0 c.args.fabric.now.switches)) (codes "Certificate:" ∷ []) (flat_map (number_lines c.args.fabric.now c.args.lanes.now) (enumerate_from 0 c.args.fabric.now.channels)) (lane_lines c.args.fabric.now c.args.lanes.now) (lane_parts c.args.fabric.now c.args.lanes.now)
    c.in_ok-put_levels.ensures c.in_ok-put_maps.ensures c.in_ok-put.ensures c.put_numbers.result c.put_numbers.ensures
