-- LIDs that an old plan keeps: their routes as trees, and the parts of those in the lanes.
pub mod RouteTrees
pub mod Parts
pub mod KeepingLoop
pub mod OldLevels
pub mod Joining
