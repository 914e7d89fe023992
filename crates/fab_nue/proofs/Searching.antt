-- Steps, runs and ends of the search, and its trees.
pub mod Growing
pub mod Swapping
pub mod SearchTrees
pub mod Settling
pub mod Turning
pub mod Measure
pub mod Runs
pub mod Listing
pub mod Adding
pub mod Passing
pub mod Emptying
pub mod Choosing
pub mod Ending
pub mod Trying
pub mod SameSearch
