use Rattle.std.proofs.Common.{rules}
use Rattle.fab_top.proofs.Wording.{no_demo}
use Rattle.fab_top.proofs.engine_words.demo_words.Goals as goal
use Rattle.fab_top.proofs.engine_words.demo_words.Goals.{in_default-via-then-others-lt6, in_default-via-else-others-lt6+else-others-lt7}

pub returns-in_default : goal.returns-in_default
returns-in_default c = elim c.in_default.branch [
  | in_default-via-then-others-lt6 w ↦ no_demo c.args.others.now (λ e. search rules)
  | in_default-via-else-others-lt6+else-others-lt7 w ↦ no_demo c.args.others.now (λ e. search rules)
]
