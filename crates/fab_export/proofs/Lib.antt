mod ExamplePlans
mod TextExamples
mod UnfitExamples
pub mod Reaching
pub mod NoRows
pub mod ListTests
pub mod FirstFound
pub mod HighLanes
pub mod FarRoutes
pub mod RepeatedGuids
pub mod UnfitRows
pub mod WithCommas
pub mod GreatestLanes
pub mod LaneLines
pub mod WrittenMaps
pub mod Cells
pub mod SaidEntries
pub mod SameTables
pub mod LoadedTables
pub mod MarkedLevels
pub mod SourceClasses
pub mod NumberedClasses
pub mod GroupNames
pub mod TerminalPorts
pub mod GroupLines
pub mod PolicyPieces
pub mod ClassRows
pub mod PartPuts
pub mod LevelParts
pub mod SourceGuids
pub mod PolicyLevels
pub mod FirstMatches
pub mod SaidCertified
pub mod ReadLines
pub mod ReadTables
pub mod LidPlaces
