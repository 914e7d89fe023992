use Rattle.fab_tables.proofs.Verdicts.OneVerdict
use Rattle.fab_tables.proofs.laws.one_refusal.Goals as goal

pub returns : goal.returns
returns c = OneVerdict.one_refusal
