use Rattle.std.proofs.Common.{◌+◌, take, sym, subst, ◌∙◌}
use Rattle.fab_netdiscover.specs.AdapterPorts.{FindsAmong}
use Rattle.fab_netdiscover.proofs.OnAdapters.{kept, added}
use Rattle.fab_netdiscover.proofs.adapter_ports.terminals_by_adapter_port.Goals as goal
use Rattle.fab_netdiscover.proofs.adapter_ports.terminals_by_adapter_port.Goals.{then-not-contains_key+in_ok-insert, else-not-contains_key}

pub loop-number-preserved : goal.loop-number-preserved
loop-number-preserved c =
    let rows = c.args.fabric.now.terminals in
    let n = c.loop-number.number in
    let row = c.terminal-row.result in
    elim c.if-not-contains_key.branch [
      | then-not-contains_key+in_ok-insert w ↦
          subst (FindsAmong (take (n + 1) rows)) (sym w.by_port-is)
          (added rows n row c.loop-number.by_port w.insert.new.self c.terminal-row.ensures c.loop-number.invariant (sym c.contains_key.ensures ∙ w.if-not-contains_key.true) w.in_ok-insert.ensures.updates.0)
      | else-not-contains_key w ↦
          subst (FindsAmong (take (n + 1) rows)) (sym w.by_port-is)
          (kept rows n row c.loop-number.by_port c.terminal-row.ensures c.loop-number.invariant (sym c.contains_key.ensures ∙ w.if-not-contains_key.false))
    ]
