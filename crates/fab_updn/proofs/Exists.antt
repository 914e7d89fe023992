-- What up/down routing finds exists: an order of keys, costs, ranks, and a plan or a refused pair.
pub mod KeyOrders
pub mod Costs
pub mod Ranks
pub mod Plans
