use Rattle.std.proofs.Common.{◌≡◌, ◌<◌, length, arith}
use Rattle.std.specs.Prelude.{slice_index}
use Rattle.std.proofs.lemmas.List.{get_or_read}
use Rattle.fab_report.proofs.Reporting.LoadSums.{terminal_low, terminals_few, terminal_counted_from}
use Rattle.fab_report.proofs.loads.terminal_counts.Goals as goal

pub overflow_add-index_mut : goal.overflow_add-index_mut
overflow_add-index_mut c =
    let t = c.args.fabric.now in
    let h : c.loop-number.number < length t.terminals = omega (arith, c.loop-number-test.true, c.terminals-number-end.ensures.count) in
    let row = c.terminal-switch.result in
    let low = terminal_low t c.switches.ensures.kept c.loop-number.number c.loop-number.counts.items row h c.terminal-switch.ensures c.loop-number.invariant in
    let read : c.index_mut.result.now ≡ slice_index c.loop-number.counts.items row.switch.0 = get_or_read c.loop-number.counts.items _ _ (omega (arith, low, c.loop-number.invariant.whole)) c.index_mut.ensures.value 0 in
    omega (arith, read, terminals_few t c.switches.ensures.kept c.loop-number.number c.loop-number.counts.items row h c.terminal-switch.ensures c.loop-number.invariant)

pub loop-number-preserved : goal.loop-number-preserved
loop-number-preserved c =
    let t = c.args.fabric.now in
    let h : c.loop-number.number < length t.terminals = omega (arith, c.loop-number-test.true, c.terminals-number-end.ensures.count) in
    let row = c.terminal-switch.result in
    let low = terminal_low t c.switches.ensures.kept c.loop-number.number c.loop-number.counts.items row h c.terminal-switch.ensures c.loop-number.invariant in
    let read : c.index_mut.result.now ≡ slice_index c.loop-number.counts.items row.switch.0 = get_or_read c.loop-number.counts.items _ _ (omega (arith, low, c.loop-number.invariant.whole)) c.index_mut.ensures.value 0 in
    terminal_counted_from t c.switches.ensures.kept c.loop-number.number c.loop-number.counts.items row h c.terminal-switch.ensures c.loop-number.invariant c.index_mut.result.now read
