-- Tables of least weight.
pub mod FallingTrees
pub mod LaidLids
pub mod LaidTrees
pub mod LidPlaces
pub mod OneTable
pub mod RoutesLeast
pub mod Turns
pub mod WeightsSame
pub mod TablesExist
