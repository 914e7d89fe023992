use Rattle.fab_hops.proofs.OrderExists
use Rattle.fab_hops.proofs.laws.centre_order_exists.Goals as goal

pub returns : goal.returns
returns c = OrderExists.centre_order_exists
