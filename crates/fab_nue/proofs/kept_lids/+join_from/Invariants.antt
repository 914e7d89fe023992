use Rattle.std.proofs.Common.{◌-◌, length}
use Rattle.fab_nue.proofs.kept_lids.+join_from.Given as goal

abbrev pub decreases-join_from : goal.decreases-join_from
decreases-join_from g l = length l.used.now - l.lane
