use Rattle.std.proofs.Common.{rules, arith, get_or, nat_eq, cond, true, sym, ap, ◌∙◌}
use Rattle.std.specs.Prelude.{◌&&◌}
use Rattle.std.proofs.lemmas.Grind.{common_steps}
use Rattle.std.proofs.lemmas.List.Folds.{list_any_more}
use Rattle.fab_model.proofs.FirstFault.Stated.{no_link}
use Rattle.fab_model.proofs.FirstFault.Repeats.{true-or, port_start, port_turn}
use Rattle.fab_model.proofs.first_fault.repeats.repeated_port.Goals as goal

pub loop-link-init : goal.loop-link-init
loop-link-init c = record { seen = search rules; told = search (rules, port_start) }

pub returns-then-not-branch : goal.returns-then-not-branch
returns-then-not-branch c =
    let turn = port_turn c.args.raw.now c.links-links.result.now c.loop-link.link-index no_link c.links-links.ensures.links c.links-links.ensures.kept (omega arith) in
    let link = get_or c.links-links.result.now c.loop-link.link-index no_link in
    let seen = c.loop-link.invariant.seen link.node link.port in
    grind (arith, common_steps)

pub loop-link-preserved : goal.loop-link-preserved
loop-link-preserved c =
    let turn = port_turn c.args.raw.now c.links-links.result.now c.loop-link.link-index no_link c.links-links.ensures.links c.links-links.ensures.kept (omega arith) in
    let link = get_or c.links-links.result.now c.loop-link.link-index no_link in
    let seen = c.loop-link.invariant.seen link.node link.port in
    record {
      seen = λ node port.
          let before = c.loop-link.invariant.seen node port in
          let more = list_any_more (λ other. nat_eq other.node node && nat_eq other.port port) c.links-links.result.now c.loop-link.link-index no_link (omega arith) in
          c.in_ok-insert.ensures.updates.0 (node, port) ∙ ap (λ old. cond (nat_eq link.node node && nat_eq link.port port) true old) before ∙ true-or (nat_eq link.node node && nat_eq link.port port) _ ∙ sym more;
      told = grind (arith, common_steps);
    }
