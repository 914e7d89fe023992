use Rattle.fab_updn.proofs.Turns
use Rattle.fab_updn.proofs.laws.one_list_of_ranks.Goals as goal

pub returns : goal.returns
returns c = Turns.one_list_of_ranks
