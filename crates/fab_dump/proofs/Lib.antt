pub mod Reading
pub mod Writing
pub mod Round
pub mod Examples
