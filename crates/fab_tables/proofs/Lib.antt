pub mod Examples
pub mod Faults
pub mod Verdicts
pub mod Joined
pub mod Rows
pub mod Paths
