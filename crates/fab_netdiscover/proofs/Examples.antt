-- Lines and whole texts, and what they mean.
pub mod Texts
pub mod ReadLines
pub mod ReadTexts
