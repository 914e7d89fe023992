-- The cables of recipes.
pub mod AllCables
pub mod CableLists
pub mod Drawing
pub mod Growing
pub mod LeastFree
pub mod RandomCables
pub mod RegularCables
