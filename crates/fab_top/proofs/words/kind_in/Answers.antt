use Rattle.fab_top.proofs.Wording.{no_such_kind}
use Rattle.fab_top.proofs.words.kind_in.Goals as goal

pub returns-in_default : goal.returns-in_default
returns-in_default c = no_such_kind c.args.word.now c.in_default.not-ring c.in_default.not-torus c.in_default.not-tree c.in_default.not-random
