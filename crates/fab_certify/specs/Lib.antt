pub mod Numbered
pub mod Certificate
pub mod EnginePlans
pub mod Laws
pub mod Collected
pub mod Numbers
pub mod OneLane
pub mod Mapping
