pub mod Edges
pub mod Order
pub mod Search
pub mod Listed
pub mod Arena
pub mod Bound
pub mod Lending
pub mod Laws
