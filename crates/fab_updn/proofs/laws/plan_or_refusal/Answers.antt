use Rattle.fab_updn.proofs.Refusals
use Rattle.fab_updn.proofs.laws.plan_or_refusal.Goals as goal

pub returns : goal.returns
returns c = Refusals.plan_or_refusal
