use Rattle.fab_updn.proofs.OneRoot
use Rattle.fab_updn.proofs.laws.unnamed_never_refused.Goals as goal

pub returns : goal.returns
returns c = OneRoot.unnamed_never_refused
