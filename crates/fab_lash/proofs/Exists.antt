-- What is laid exists: a lane for a pair, layers, levels, and a plan or a pair that needs another lane.
pub mod Placed
pub mod Layers
pub mod Lanes
pub mod Plans
