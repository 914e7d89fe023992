use Rattle.std.proofs.Common.{rules}
use Rattle.fab_top.proofs.Wording.{no_export}
use Rattle.fab_top.proofs.words.export_words.Goals as goal
use Rattle.fab_top.proofs.words.export_words.Goals.{in_default-via-then-others-lt3, in_default-via-else-others-lt3+else-others-lt4}

pub returns-in_default : goal.returns-in_default
returns-in_default c = elim c.in_default.branch [
  | in_default-via-then-others-lt3 w ↦ no_export c.args.others.now (λ e. search rules)
  | in_default-via-else-others-lt3+else-others-lt4 w ↦ no_export c.args.others.now (λ e. search rules)
]
