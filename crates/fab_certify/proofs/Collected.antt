-- The dependencies of a plan, collected route by route.
pub mod BehindHops
pub mod CollectingHops
pub mod CollectingStarts
pub mod HopChannels
pub mod HopsAdded
pub mod MarksSet
