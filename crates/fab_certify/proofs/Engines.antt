-- The lanes of routing engines, and their plans.
pub mod EngineLanes
pub mod Lanewise
pub mod Mapping
pub mod OneEnginePlan
pub mod OneLane
