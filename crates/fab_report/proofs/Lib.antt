mod Examples
pub mod Cabling
pub mod Carrying
pub mod Generated
pub mod Reporting
