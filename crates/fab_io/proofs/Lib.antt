pub mod Examples
pub mod Newest
pub mod KnownBytes
