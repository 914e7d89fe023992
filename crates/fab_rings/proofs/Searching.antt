-- The search for the strongly connected components.
pub mod Places
pub mod HeadTaken
pub mod Joining
pub mod Finding
pub mod Closing
pub mod Starting
pub mod NextHead
pub mod Numbered
pub mod ComponentWalks
