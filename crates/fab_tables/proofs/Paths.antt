-- Routes, and walks along trees.
pub mod Carried
pub mod FallingRoutes
pub mod HopsTaken
pub mod LoopRepeats
pub mod Loops
pub mod RisingTrees
pub mod RouteTurns
pub mod Routes
pub mod RoutesBehind
pub mod SameRoutes
pub mod Steps
pub mod SwitchSums
pub mod TreeRoutes
pub mod TreeWalks
pub mod TreeWays
pub mod Walked
pub mod Ways
