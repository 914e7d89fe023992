-- Channels in an order.
pub mod Lists
pub mod Moved
pub mod Loops
