-- What is found and noted comes from mixed walks; those to the LIDs so far are noted.
use Rattle.fab_transit.specs.Finding.{AreRooms}
use Rattle.fab_transit.specs.Walking.{AreFromWalks}
use Rattle.fab_transit.proofs.EachLid.{HaveWalks}
use Rattle.fab_transit.proofs.walks.find_walks.Given as goal

abbrev pub invariant-loop-lid : goal.invariant-loop-lid
invariant-loop-lid l = AreFromWalks l.plans.fabric l.plans.change l.walks × AreRooms l.plans l.found × HaveWalks l.plans.fabric l.plans.change l.walks l.lid-index
