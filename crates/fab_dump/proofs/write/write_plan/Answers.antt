use Rattle.std.proofs.Common.{[], ◌∷◌, Ok, Err}
use Rattle.std.specs.Prelude.{codes}
use Rattle.std.specs.List.{flat_map, enumerate_from}
use Rattle.std.proofs.lemmas.Result.{err_from_is_err_and}
use Rattle.fab_dump.specs.Writing.{lines_text, version_text, lanes_line, table_block, lane_part, plan_lines}
use Rattle.fab_dump.proofs.Writing.Parts.{plan_parts, new_put, stopped_in_first, stopped_in_second, stopped_in_third, four_put}
use Rattle.fab_dump.proofs.write.write_plan.Goals as goal

pub returns-in_err-put-clause-text : goal.returns-in_err-put-clause-text
returns-in_err-put-clause-text g c =
    let p = err_from_is_err_and c.from_residual-in_err-put.result c.from_residual-in_err-put.ensures.1 in
    rw p.1 (stopped_in_first (version_text c.args.plan.now.lanes ∷ lanes_line c.args.plan.now.lanes ∷ []) (flat_map (table_block c.args.fabric.now c.args.plan.now.tables) (enumerate_from 0 c.args.fabric.now.switches)) (lane_part c.args.fabric.now c.args.plan.now.lanes) (codes "end plan" ∷ []) (plan_lines c.args.fabric.now c.args.plan.now) (plan_parts c.args.fabric.now c.args.plan.now)
    c.in_err-put.field-0.0 (new_put (lines_text (version_text c.args.plan.now.lanes ∷ lanes_line c.args.plan.now.lanes ∷ [])) c.new-piece.result.items c.push_start.new.text.items c.deref.result.now (Err c.in_err-put.field-0.0) c.new-piece.ensures.items c.in_ok-push_start.ensures c.deref.ensures.value c.in_err-put.ensures)).written

pub returns-in_err-put_tables-clause-text : goal.returns-in_err-put_tables-clause-text
returns-in_err-put_tables-clause-text g c =
    let p = err_from_is_err_and c.from_residual-in_err-put_tables.result c.from_residual-in_err-put_tables.ensures.1 in
    rw p.1 (stopped_in_second (version_text c.args.plan.now.lanes ∷ lanes_line c.args.plan.now.lanes ∷ []) (flat_map (table_block c.args.fabric.now c.args.plan.now.tables) (enumerate_from 0 c.args.fabric.now.switches)) (lane_part c.args.fabric.now c.args.plan.now.lanes) (codes "end plan" ∷ []) (plan_lines c.args.fabric.now c.args.plan.now) (plan_parts c.args.fabric.now c.args.plan.now)
    (new_put (lines_text (version_text c.args.plan.now.lanes ∷ lanes_line c.args.plan.now.lanes ∷ [])) c.new-piece.result.items c.push_start.new.text.items c.deref.result.now (Ok tt) c.new-piece.ensures.items c.in_ok-push_start.ensures c.deref.ensures.value c.in_ok-put.ensures) c.in_err-put_tables.field-0.0 c.in_err-put_tables.ensures).written

pub returns-in_err-put_lane_part-clause-text : goal.returns-in_err-put_lane_part-clause-text
returns-in_err-put_lane_part-clause-text g c =
    let p = err_from_is_err_and c.from_residual-in_err-put_lane_part.result c.from_residual-in_err-put_lane_part.ensures.1 in
    rw p.1 (stopped_in_third (version_text c.args.plan.now.lanes ∷ lanes_line c.args.plan.now.lanes ∷ []) (flat_map (table_block c.args.fabric.now c.args.plan.now.tables) (enumerate_from 0 c.args.fabric.now.switches)) (lane_part c.args.fabric.now c.args.plan.now.lanes) (codes "end plan" ∷ []) (plan_lines c.args.fabric.now c.args.plan.now) (plan_parts c.args.fabric.now c.args.plan.now)
    (new_put (lines_text (version_text c.args.plan.now.lanes ∷ lanes_line c.args.plan.now.lanes ∷ [])) c.new-piece.result.items c.push_start.new.text.items c.deref.result.now (Ok tt) c.new-piece.ensures.items c.in_ok-push_start.ensures c.deref.ensures.value c.in_ok-put.ensures) c.in_ok-put_tables.ensures c.in_err-put_lane_part.field-0.0 c.in_err-put_lane_part.ensures).written

pub returns-clause-text : goal.returns-clause-text
returns-clause-text g c =
    (four_put (version_text c.args.plan.now.lanes ∷ lanes_line c.args.plan.now.lanes ∷ []) (flat_map (table_block c.args.fabric.now c.args.plan.now.tables) (enumerate_from 0 c.args.fabric.now.switches)) (lane_part c.args.fabric.now c.args.plan.now.lanes) (codes "end plan" ∷ []) (plan_lines c.args.fabric.now c.args.plan.now) (plan_parts c.args.fabric.now c.args.plan.now)
    (new_put (lines_text (version_text c.args.plan.now.lanes ∷ lanes_line c.args.plan.now.lanes ∷ [])) c.new-piece.result.items c.push_start.new.text.items c.deref.result.now (Ok tt) c.new-piece.ensures.items c.in_ok-push_start.ensures c.deref.ensures.value c.in_ok-put.ensures) c.in_ok-put_tables.ensures c.in_ok-put_lane_part.ensures c.put-2.result c.put-2.ensures).written
