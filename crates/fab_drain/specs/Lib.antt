pub mod Loads
pub mod Ways
pub mod Fills
pub mod Offers
pub mod Moves
pub mod Drains
pub mod Turns
pub mod Laws
