pub mod Times
pub mod EdgesOf
pub mod Layering
pub mod Searching
pub mod Returning
