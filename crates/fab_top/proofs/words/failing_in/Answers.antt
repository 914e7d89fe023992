use Rattle.fab_top.proofs.Wording.{no_such_failing}
use Rattle.fab_top.proofs.words.failing_in.Goals as goal

pub returns-in_default : goal.returns-in_default
returns-in_default c = no_such_failing c.args.word.now c.in_default.not-cables c.in_default.not-switches
