use Rattle.fab_text.proofs.LinesMet
use Rattle.fab_text.proofs.laws.lines_are_met.Goals as goal

pub returns : goal.returns
returns c = LinesMet.lines_are_met
