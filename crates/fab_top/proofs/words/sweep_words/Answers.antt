use Rattle.std.proofs.Common.{rules}
use Rattle.fab_top.proofs.Wording.{no_sweep}
use Rattle.fab_top.proofs.words.sweep_words.Goals as goal
use Rattle.fab_top.proofs.words.sweep_words.Goals.{in_default-via-then-others-lt5, in_default-via-else-others-lt5+else-others-lt6}

pub returns-in_default : goal.returns-in_default
returns-in_default c = elim c.in_default.branch [
  | in_default-via-then-others-lt5 w ↦ no_sweep c.args.others.now (λ e. search rules)
  | in_default-via-else-others-lt5+else-others-lt6 w ↦ no_sweep c.args.others.now (λ e. search rules)
]
