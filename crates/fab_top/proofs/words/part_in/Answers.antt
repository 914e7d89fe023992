use Rattle.fab_top.proofs.Wording.{no_such_part}
use Rattle.fab_top.proofs.words.part_in.Goals as goal

pub returns-in_default : goal.returns-in_default
returns-in_default c = no_such_part c.args.word.now c.in_default.not-tables c.in_default.not-levels c.in_default.not-config
