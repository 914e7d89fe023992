use Rattle.std.proofs.Common.{◌∙◌, map, Vec, Global, ap}
use Rattle.fab_model.specs.declared.rows.TerminalId.{TerminalId}
use Rattle.fab_mcast.proofs.Spreading.{one_marked, not_marked}
use Rattle.fab_mcast.proofs.copies.marked.Goals as goal
use Rattle.fab_mcast.proofs.copies.marked.Goals.{then-marks-n+in_ok-push, else-marks-n}

pub loop-n-preserved : goal.loop-n-preserved
loop-n-preserved c = elim c.if-marks-n.branch [
  | then-marks-n+in_ok-push w ↦ one_marked c.args.marks.now c.loop-n.n c.loop-n.found.items c.if-marks-n.found.items c.loop-n.invariant w.if-marks-n.true (ap (λ (v : Vec TerminalId Global). v.items) w.found-is ∙ w.in_ok-push.ensures.items)
  | else-marks-n w ↦ ap (λ (v : Vec TerminalId Global). map (λ (id : TerminalId). id.0) v.items) w.found-is ∙ not_marked c.args.marks.now c.loop-n.n c.loop-n.found.items c.loop-n.invariant w.if-marks-n.false
]
