-- Channels of a switch, walks of channels, what they join, and the LIDs in use.
pub mod Ascending
pub mod ConnectedDecided
pub mod Leaving
pub mod Lids
pub mod Search
pub mod Tips
pub mod Walks
