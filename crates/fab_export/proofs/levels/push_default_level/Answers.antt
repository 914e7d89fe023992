use Rattle.std.proofs.Common.{◌++◌, ℕ, ap, ◌∙◌}
use Rattle.std.specs.Prelude.{codes, decimal}
use Rattle.std.proofs.lemmas.Result.{IfOk-equal}
use Rattle.fab_export.proofs.PolicyPieces.{default_pushed}
use Rattle.fab_export.proofs.levels.push_default_level.Goals as goal

pub returns : goal.returns
returns c =
    IfOk-equal c.push-2.result _ _ _ c.push-2.ensures
    (default_pushed c.args.text.now.items (codes "qos-level\nname: default\nsl: ") (decimal c.args.level) (codes "end-qos-level\n") c.push.new.to.items c.push_dec.new.to.items
    c.in_ok-push.ensures (c.in_ok-push_dec.ensures.ok ∙ ap (λ (n : ℕ). c.push.new.to.items ++ decimal n) c.from.ensures))
