-- Weights, raised by the terminals whose walks along a tree contain the channels.
pub mod PassingCounts
pub mod Sums
pub mod SumsBelow
pub mod TreePassing
pub mod WeightBounds
