-- The arenas of the lanes: one of them changes, and the escape sets with which they begin.
pub mod LaneLists
pub mod OwnLids
pub mod Forests
pub mod EscapeSets
pub mod Leveling
pub mod LidLists
