-- How near nodes are to one of them, and the ring from there.
pub mod ReachingTails
pub mod ReachingLayers
pub mod LeastAt
pub mod RingSteps
