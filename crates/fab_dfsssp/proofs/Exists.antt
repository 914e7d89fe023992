pub mod StartLanes
pub mod Releveled
pub mod Rings
pub mod Steps
pub mod Plans
