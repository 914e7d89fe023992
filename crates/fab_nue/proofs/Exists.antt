-- Each fabric has a plan of Nue: what is decided, and what is made one after the other.
pub mod ListedGraphs
pub mod Deciding
pub mod KeptExist
pub mod LaidTrees
pub mod Columns
pub mod LevelsExist
pub mod NumberedPlans
pub mod Plans
