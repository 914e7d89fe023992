use Rattle.std.proofs.Common.{◌<◌, length, arith}
use Rattle.std.proofs.lemmas.Result.{err_from_is_err_and}
use Rattle.fab_dump.specs.Writing.{number_lines}
use Rattle.fab_dump.proofs.Writing.Loops.{rows_put, row_refused, row_put, row_stopped}
use Rattle.fab_dump.proofs.write.put_numbers.Goals as goal

pub returns-in_err-push_numbers : goal.returns-in_err-push_numbers
returns-in_err-push_numbers g c =
    let p = err_from_is_err_and c.from_residual.result c.from_residual.ensures.1 in
    rw (p.1, p.2) (row_refused (number_lines c.args.fabric.now c.args.lanes.now) c.args.fabric.now.channels c.loop-channel.channel c.loop-channel.invariant c.in_err-push_numbers.field-0.0)

pub returns-in_err-put : goal.returns-in_err-put
returns-in_err-put g c =
    let within : c.loop-channel.channel < length c.args.fabric.now.channels = omega (arith, c.loop-channel-test.true, c.channels-channel-end.ensures.count) in
    let p = err_from_is_err_and c.from_residual-in_err-put.result c.from_residual-in_err-put.ensures.1 in
    rw (p.1, p.2) (row_stopped (number_lines c.args.fabric.now c.args.lanes.now) c.args.fabric.now.channels c.loop-channel.channel c.loop-channel.invariant c.clear.new.self.items c.push_numbers.new.text.items c.deref.result.now within c.clear.ensures.items c.in_ok-push_numbers.ensures c.deref.ensures.value c.in_err-put.field-0.0 c.in_err-put.ensures)

pub loop-channel-preserved : goal.loop-channel-preserved
loop-channel-preserved g c =
    let within : c.loop-channel.channel < length c.args.fabric.now.channels = omega (arith, c.loop-channel-test.true, c.channels-channel-end.ensures.count) in
    row_put (number_lines c.args.fabric.now c.args.lanes.now) c.args.fabric.now.channels c.loop-channel.channel c.loop-channel.invariant c.clear.new.self.items c.push_numbers.new.text.items c.deref.result.now within c.clear.ensures.items c.in_ok-push_numbers.ensures c.deref.ensures.value c.in_ok-put.ensures

pub returns : goal.returns
returns g c = rows_put (number_lines c.args.fabric.now c.args.lanes.now) c.args.fabric.now.channels c.loop-channel.channel c.loop-channel.invariant (omega (arith, c.loop-channel-test.false, c.channels-channel-end.ensures.count))
