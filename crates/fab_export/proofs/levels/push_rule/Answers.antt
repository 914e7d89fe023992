use Rattle.std.proofs.Common.{◌++◌, ℕ, ap, ◌∙◌}
use Rattle.std.specs.Prelude.{codes, decimal}
use Rattle.std.proofs.lemmas.Result.{IfOk-equal}
use Rattle.fab_export.proofs.PolicyPieces.{rule_pushed}
use Rattle.fab_export.proofs.levels.push_rule.Goals as goal

pub returns : goal.returns
returns c =
    IfOk-equal c.push-5.result _ _ _ c.push-5.ensures
    (rule_pushed c.args.text.now.items (codes "qos-match-rule\nsource: class") (decimal c.args.class) (codes "destination: class") (codes "level") (decimal c.args.level) (codes "qos-level-name: level") (codes "end-qos-match-rule\n")
    c.push.new.to.items c.push_dec.new.to.items c.push-2.new.to.items c.push_dec-2.new.to.items c.push-3.new.to.items c.push_dec-3.new.to.items c.push-4.new.to.items c.push_dec-4.new.to.items
    c.in_ok-push.ensures c.in_ok-push_dec.ensures.ok c.in_ok-push-2.ensures c.in_ok-push_dec-2.ensures.ok
    c.in_ok-push-3.ensures (c.in_ok-push_dec-3.ensures.ok ∙ ap (λ (n : ℕ). c.push-3.new.to.items ++ decimal n) c.from.ensures)
    c.in_ok-push-4.ensures (c.in_ok-push_dec-4.ensures.ok ∙ ap (λ (n : ℕ). c.push-4.new.to.items ++ decimal n) c.from-2.ensures))
