use Rattle.fab_tables.proofs.Verdicts.PlainVerdicts
use Rattle.fab_tables.proofs.laws.plain_verdict_agrees.Goals as goal

pub returns : goal.returns
returns c = PlainVerdicts.plain_verdict_agrees
