use Rattle.fab_escape.proofs.NoRepeats
use Rattle.fab_escape.proofs.laws.escape_routes_repeat_no_switch.Goals as goal

pub returns : goal.returns
returns c = NoRepeats.escape_routes_repeat_no_switch
