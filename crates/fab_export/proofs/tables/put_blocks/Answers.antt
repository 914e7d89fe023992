use Rattle.std.proofs.Common.{◌≡◌, ◌<◌, ◌∙◌, ap, length, arith}
use Rattle.std.proofs.lemmas.Result.{err_from_is_err_and}
use Rattle.fab_model.specs.Topology.{Topology}
use Rattle.fab_dump.proofs.Writing.Loops.{rows_put, row_refused, row_put, row_stopped}
use Rattle.fab_export.specs.TablesText.{exported_block}
use Rattle.fab_export.proofs.tables.put_blocks.Goals as goal

pub returns-in_err-push_block : goal.returns-in_err-push_block
returns-in_err-push_block g c =
    let p = err_from_is_err_and c.from_residual.result c.from_residual.ensures.1 in
    rw (p.1, p.2) (row_refused (exported_block c.args.reached.now.fabric c.args.reached.now.entries) c.args.reached.now.fabric.switches c.loop-switch.switch c.loop-switch.invariant c.in_err-push_block.field-0.0)

pub returns-in_err-put : goal.returns-in_err-put
returns-in_err-put g c =
    let many : c.switches-switch-end.result ≡ length c.args.reached.now.fabric.switches = c.switches-switch-end.ensures.count ∙ ap (λ (t : Topology). length t.switches) c.fabric.ensures.fabric in
    let within : c.loop-switch.switch < length c.args.reached.now.fabric.switches = omega (arith, c.loop-switch-test.true, many) in
    let p = err_from_is_err_and c.from_residual-in_err-put.result c.from_residual-in_err-put.ensures.1 in
    rw (p.1, p.2) (row_stopped (exported_block c.args.reached.now.fabric c.args.reached.now.entries) c.args.reached.now.fabric.switches c.loop-switch.switch c.loop-switch.invariant c.clear.new.self.items c.push_block.new.text.items c.deref.result.now within c.clear.ensures.items c.in_ok-push_block.ensures c.deref.ensures.value c.in_err-put.field-0.0 c.in_err-put.ensures)

pub loop-switch-preserved : goal.loop-switch-preserved
loop-switch-preserved g c =
    let many : c.switches-switch-end.result ≡ length c.args.reached.now.fabric.switches = c.switches-switch-end.ensures.count ∙ ap (λ (t : Topology). length t.switches) c.fabric.ensures.fabric in
    let within : c.loop-switch.switch < length c.args.reached.now.fabric.switches = omega (arith, c.loop-switch-test.true, many) in
    row_put (exported_block c.args.reached.now.fabric c.args.reached.now.entries) c.args.reached.now.fabric.switches c.loop-switch.switch c.loop-switch.invariant c.clear.new.self.items c.push_block.new.text.items c.deref.result.now within c.clear.ensures.items c.in_ok-push_block.ensures c.deref.ensures.value c.in_ok-put.ensures

pub returns : goal.returns
returns g c =
    let many : c.switches-switch-end.result ≡ length c.args.reached.now.fabric.switches = c.switches-switch-end.ensures.count ∙ ap (λ (t : Topology). length t.switches) c.fabric.ensures.fabric in
    rows_put (exported_block c.args.reached.now.fabric c.args.reached.now.entries) c.args.reached.now.fabric.switches c.loop-switch.switch c.loop-switch.invariant (omega (arith, c.loop-switch-test.false, many))
