use Rattle.fab_updn.proofs.OneRoot
use Rattle.fab_updn.proofs.laws.one_root_never_refused.Goals as goal

pub returns : goal.returns
returns c = OneRoot.one_root_never_refused
