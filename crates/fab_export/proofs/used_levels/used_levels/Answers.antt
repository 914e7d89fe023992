use Rattle.std.proofs.Common.{◌≡◌, ◌+◌, List, Bool, length, sym, ◌∙◌, ap, subst, arith}
use Rattle.fab_model.specs.Topology.{Topology, is_source}
use Rattle.fab_export.proofs.MarkedLevels.{AreUsed, source_used, other_used, all_used}
use Rattle.fab_export.proofs.used_levels.used_levels.Goals as goal
use Rattle.fab_export.proofs.used_levels.used_levels.Goals.{then-has_terminal, else-has_terminal}

pub loop-switch-preserved : goal.loop-switch-preserved
loop-switch-preserved c =
    let t = c.args.reached.now.fabric in
    let e = c.args.reached.now.entries in
    let l = c.args.lanes.now in
    let n = c.loop-switch.switch in
    let before = c.loop-switch.invariant in
    let told = c.has_terminal.ensures ∙ ap (λ (t : Topology). is_source t n) c.fabric-fabric.ensures.fabric in
    elim c.if-has_terminal.branch [
      | then-has_terminal w ↦ record {
        whole = ap (λ (used : List Bool). length used) w.used-is ∙ w.mark_levels.array_long;
        used = subst (λ (used : List Bool). AreUsed t e l used (n + 1)) (sym w.used-is)
            (source_used t e l c.loop-switch.used w.mark_levels.new.used n before.used (sym told ∙ w.if-has_terminal.true) w.mark_levels.ensures);
      }
      | else-has_terminal w ↦ record {
        whole = ap (λ (used : List Bool). length used) w.used-is ∙ before.whole;
        used = subst (λ (used : List Bool). AreUsed t e l used (n + 1)) (sym w.used-is) (other_used t e l c.loop-switch.used n before.used (sym told ∙ w.if-has_terminal.false));
      }
    ]

pub returns : goal.returns
returns c =
    let t = c.args.reached.now.fabric in
    let last : c.loop-switch.switch ≡ length t.switches = omega (arith, ap (λ (t : Topology). length t.switches) c.fabric-fabric.ensures.fabric) in
    all_used t c.args.reached.now.entries c.args.lanes.now c.loop-switch.used c.loop-switch.switch c.loop-switch.invariant.whole last c.loop-switch.invariant.used
