-- LIDs that are kept and laid, what is in use, and the weights.
pub mod Members
pub mod KeptLists
pub mod KeepingLids
pub mod LidPlaces
pub mod InUse
pub mod Reaching
pub mod LaidRoutes
pub mod Carrying
pub mod LayingSteps
pub mod Weighing
pub mod WeightsAlike
pub mod LidAfterLid
pub mod TreeTables
pub mod LaidTrees
pub mod LayingLoop
