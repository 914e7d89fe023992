pub mod WeightTables
pub mod Passing
pub mod LeastWeight
pub mod Nearing
pub mod Carried
pub mod LeastWeightTables
pub mod Laying
pub mod Laws
