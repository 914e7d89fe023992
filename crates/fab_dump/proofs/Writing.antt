-- Plan texts, written, and how long they are.
pub mod BlockLengths
pub mod Lanes
pub mod LineLengths
pub mod Loops
pub mod Pairs
pub mod Parts
pub mod PlanLengths
pub mod Puts
pub mod Rows
