use Rattle.std.proofs.Common.{◌≡◌, ◌<◌, ◌+◌, length, set, inl, inr, sym, ap, ◌∙◌, subst, arith, length-set}
use Rattle.std.specs.Prelude.{slice_index}
use Rattle.std.proofs.lemmas.List.{get_or_read}
use Rattle.fab_report.specs.Cabling.{with_cable}
use Rattle.fab_report.specs.Laying.{LaidCables}
use Rattle.fab_report.proofs.Cabling.LeastFree.{laid_least, laid_is, laid_cables, made, with_cable_kept}
use Rattle.fab_report.proofs.random.Laid.lay.Goals as goal
use Rattle.fab_report.proofs.random.Laid.lay.Goals.{else-port-lt-NO_PORT-via-then-port-lt-NO_PORT+else-other_port-lt-NO_PORT, else-port-lt-NO_PORT-via-else-port-lt-NO_PORT}

pub invariant_of-self-then-other_port-lt-NO_PORT : goal.invariant_of-self-then-other_port-lt-NO_PORT
invariant_of-self-then-other_port-lt-NO_PORT c =
    let ports = c.self.inside.free_ports.items in
    let low : c.args.s < length ports = omega (arith, c.requires.switch, ap (λ (l : LaidCables). l.switches) c.self.view_is) in
    let other_low : c.args.other < length ports = omega (arith, c.requires.other, ap (λ (l : LaidCables). l.switches) c.self.view_is) in
    laid_least c.self.inside.cables.items ports c.args.s c.args.other c.self.invariant low other_low c.requires.differ
    c.index-port.result.now c.index-other_port.result.now c.cable.result c.push.new.self.items
    (get_or_read ports _ _ low c.index-port.ensures 0) (get_or_read ports _ _ other_low c.index-other_port.ensures 0)
    c.if-port-lt-NO_PORT.true c.if-other_port-lt-NO_PORT.true c.in_ok-push.ensures.items c.cable.ensures

pub returns-in_ok-push : goal.returns-in_ok-push
returns-in_ok-push c =
    let ports = c.self.inside.free_ports.items in
    let low : c.args.s < length ports = omega (arith, c.requires.switch, ap (λ (l : LaidCables). l.switches) c.self.view_is) in
    let other_low : c.args.other < length ports = omega (arith, c.requires.other, ap (λ (l : LaidCables). l.switches) c.self.view_is) in
    made _ _ _ _
    (length-set (set ports c.args.s (c.index-port.result.now + 1)) c.args.other (c.index-other_port.result.now + 1) ∙ length-set ports c.args.s (c.index-port.result.now + 1) ∙ ap (λ (l : LaidCables). l.switches) c.self.view_is)
    (laid_is c.self.inside.cables.items ports c.args.s c.args.other c.self.invariant low other_low c.requires.differ
    c.index-port.result.now c.index-other_port.result.now c.cable.result c.push.new.self.items
    (get_or_read ports _ _ low c.index-port.ensures 0) (get_or_read ports _ _ other_low c.index-other_port.ensures 0)
    c.if-port-lt-NO_PORT.true c.if-other_port-lt-NO_PORT.true c.in_ok-push.ensures.items c.cable.ensures
    ∙ ap (λ (l : LaidCables). with_cable l.cables c.args.s c.args.other) c.self.view_is)

pub returns-else-port-lt-NO_PORT : goal.returns-else-port-lt-NO_PORT
returns-else-port-lt-NO_PORT c =
    let ports = c.self.inside.free_ports.items in
    let cables = c.self.inside.cables.items in
    let low : c.args.s < length ports = omega (arith, c.requires.switch, ap (λ (l : LaidCables). l.switches) c.self.view_is) in
    let other_low : c.args.other < length ports = omega (arith, c.requires.other, ap (λ (l : LaidCables). l.switches) c.self.view_is) in
    let port : c.index-port.result.now ≡ slice_index ports c.args.s = get_or_read ports _ _ low c.index-port.ensures 0 in
    let other_port : c.index-other_port.result.now ≡ slice_index ports c.args.other = get_or_read ports _ _ other_low c.index-other_port.ensures 0 in
    let kept : with_cable cables c.args.s c.args.other ≡ cables =
    with_cable_kept cables c.args.s c.args.other (slice_index ports c.args.s) (slice_index ports c.args.other) (c.self.invariant c.args.s low) (c.self.invariant c.args.other other_low)
    (elim c.else-port-lt-NO_PORT.branch [
      | else-port-lt-NO_PORT-via-then-port-lt-NO_PORT+else-other_port-lt-NO_PORT w ↦ inr (omega (arith, other_port, w.if-other_port-lt-NO_PORT.false))
      | else-port-lt-NO_PORT-via-else-port-lt-NO_PORT w ↦ inl (omega (arith, port, w.if-port-lt-NO_PORT.false))
    ]) in
    subst (λ (l : LaidCables). l ≡ laid_cables l.switches (with_cable l.cables c.args.s c.args.other)) c.self.view_is
    (ap (λ xs. laid_cables (length ports) xs) (sym kept))
