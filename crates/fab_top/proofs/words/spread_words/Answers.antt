use Rattle.std.proofs.Common.{rules}
use Rattle.fab_top.proofs.Wording.{no_spread}
use Rattle.fab_top.proofs.words.spread_words.Goals as goal
use Rattle.fab_top.proofs.words.spread_words.Goals.{in_default-via-then-others-lt4, in_default-via-else-others-lt4+else-others-lt5}

pub returns-in_default : goal.returns-in_default
returns-in_default c = elim c.in_default.branch [
  | in_default-via-then-others-lt4 w ↦ no_spread c.args.others.now (λ e. search rules)
  | in_default-via-else-others-lt4+else-others-lt5 w ↦ no_spread c.args.others.now (λ e. search rules)
]
