pub mod Pairs
pub mod CostSteps
pub mod FailureRows
pub mod SwitchCables
pub mod KeptCount
pub mod CableFailures
pub mod SweepRows
pub mod SweepExists
mod Examples
