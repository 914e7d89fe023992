pub mod EdgeList
pub mod Neighbours
pub mod Layers
pub mod Nearness
pub mod StrongComponents
pub mod PathSearch
pub mod Numbering
