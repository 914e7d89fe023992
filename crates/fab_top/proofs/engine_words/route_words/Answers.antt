use Rattle.std.proofs.Common.{rules}
use Rattle.fab_top.proofs.Wording.{no_route}
use Rattle.fab_top.proofs.engine_words.route_words.Goals as goal
use Rattle.fab_top.proofs.engine_words.route_words.Goals.{in_default-via-then-others-lt2, in_default-via-in-len2-up+else-is_file}

pub returns-in_default : goal.returns-in_default
returns-in_default c = elim c.in_default.branch [
  | in_default-via-then-others-lt2 w ↦ no_route c.args.others.now (search rules)
  | in_default-via-in-len2-up+else-is_file w ↦ search rules
]
