-- Edges that are linked in slots.
pub mod Sums
pub mod Chains
pub mod Rows
pub mod Changes
pub mod Calls
pub mod Empty
