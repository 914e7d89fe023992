-- Tables and lanes as rows of cells.
pub mod Cells
pub mod EntriesSet
pub mod LaneSets
pub mod LanesChange
pub mod LevelBytes
pub mod LevelsLow
pub mod PairRows
pub mod Places
pub mod ReadLanes
pub mod SameCells
pub mod SameTables
