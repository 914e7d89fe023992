-- Loads, hops and numbers, counted and shown.
pub mod Bounds
pub mod HopLines
pub mod HopSums
pub mod LoadSums
pub mod NumberCounts
