pub mod Linking
pub mod Ordering
pub mod Searching
pub mod Listing
pub mod Examples
