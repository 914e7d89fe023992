use Rattle.fab_tables.proofs.Verdicts.VerdictExists
use Rattle.fab_tables.proofs.laws.refusal_or_none.Goals as goal

pub returns : goal.returns
returns c = VerdictExists.refusal_or_none
