mod Examples
pub mod Climbing
pub mod Making
pub mod ParentChannels
pub mod Climbed
pub mod LinksInto
pub mod OneRoot
pub mod Depths
pub mod NextChannels
pub mod EndsOfRoutes
pub mod WholeTree
pub mod Numbers
pub mod EscapeTrees
pub mod NoRepeats
pub mod OneForest
pub mod Kept
pub mod ForestExists
