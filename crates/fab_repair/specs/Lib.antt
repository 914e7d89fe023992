pub mod FailedList
pub mod Faults
pub mod Repairs
pub mod Laws
