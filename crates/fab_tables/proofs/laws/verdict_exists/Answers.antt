use Rattle.fab_tables.proofs.Verdicts.VerdictExists
use Rattle.fab_tables.proofs.laws.verdict_exists.Goals as goal

pub returns : goal.returns
returns c = VerdictExists.verdict_exists
