pub mod Examples
pub mod Raising
pub mod Walks
pub mod Tables
