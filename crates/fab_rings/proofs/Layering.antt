-- The nodes of a graph are taken layer by layer, and have their levels.
pub mod EdgesLeft
pub mod TakingEdges
pub mod TakingNodes
pub mod FreeNodes
pub mod NextLayer
pub mod ClosedWalks
