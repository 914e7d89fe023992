-- The rows of edges of a list of dependencies.
pub mod OneRow
pub mod Added
pub mod Bound
pub mod Kept
pub mod ClosedWalks
