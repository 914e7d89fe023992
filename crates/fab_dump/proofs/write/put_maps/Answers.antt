use Rattle.std.proofs.Common.{◌<◌, length, arith}
use Rattle.std.proofs.lemmas.Result.{err_from_is_err_and}
use Rattle.fab_dump.specs.Writing.{map_block}
use Rattle.fab_dump.proofs.Writing.Loops.{rows_put, row_refused, row_put, row_stopped}
use Rattle.fab_dump.proofs.write.put_maps.Goals as goal

pub returns-in_err-first : goal.returns-in_err-first
returns-in_err-first g c =
    let p = err_from_is_err_and c.from_residual.result c.from_residual.ensures.1 in
    rw (p.1, p.2) (row_refused (map_block c.args.lanes.now) c.args.fabric.now.switches c.loop-switch.switch c.loop-switch.invariant.put c.in_err-first.field-0.0)

pub returns-in_err-put : goal.returns-in_err-put
returns-in_err-put g c =
    let within : c.loop-switch.switch < length c.args.fabric.now.switches = omega (arith, c.loop-switch-test.true, c.switches-switch-end.ensures.count) in
    let p = err_from_is_err_and c.from_residual-in_err-put.result c.from_residual-in_err-put.ensures.1 in
    rw (p.1, p.2) (row_stopped (map_block c.args.lanes.now) c.args.fabric.now.switches c.loop-switch.switch c.loop-switch.invariant.put c.clear.new.self.items c.push_map_block.new.text.items c.deref.result.now within c.clear.ensures.items c.in_ok-first.ensures.rows c.deref.ensures.value c.in_err-put.field-0.0 c.in_err-put.ensures)

pub loop-switch-preserved : goal.loop-switch-preserved
loop-switch-preserved g c =
    let within : c.loop-switch.switch < length c.args.fabric.now.switches = omega (arith, c.loop-switch-test.true, c.switches-switch-end.ensures.count) in
    record {
      put = row_put (map_block c.args.lanes.now) c.args.fabric.now.switches c.loop-switch.switch c.loop-switch.invariant.put c.clear.new.self.items c.push_map_block.new.text.items c.deref.result.now within c.clear.ensures.items c.in_ok-first.ensures.rows c.deref.ensures.value c.in_ok-put.ensures;
      pairs = c.in_ok-first.ensures.past;
    }

pub returns : goal.returns
returns g c = rows_put (map_block c.args.lanes.now) c.args.fabric.now.switches c.loop-switch.switch c.loop-switch.invariant.put (omega (arith, c.loop-switch-test.false, c.switches-switch-end.ensures.count))
