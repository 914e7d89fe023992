-- Lists: their elements, lists put in order, and lists put together.
pub mod FlatMaps
pub mod Found
pub mod InOrder
pub mod Members
pub mod Sorted
