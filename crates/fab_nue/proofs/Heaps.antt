-- The heap of choices, and the candidates that stand in it.
pub mod HeapOrder
pub mod Counts
pub mod Heaping
pub mod Offering
pub mod UnderWay
pub mod Beginning
pub mod Ends
pub mod Rebuilding
pub mod Swapped
