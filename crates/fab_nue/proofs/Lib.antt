pub mod Examples
pub mod Searching
pub mod Heaps
pub mod Laying
pub mod Plans
pub mod Lanes
pub mod Keeping
pub mod Exists
