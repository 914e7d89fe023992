-- Walks of least weight, and the search for distances.
pub mod LeastChannels
pub mod LeastWalks
pub mod Nearing
pub mod Settled
pub mod ShortWalks
pub mod WeightsInRange
pub mod DistancesExist
