-- Numbers that are set, and the numbered plan.
pub mod Certificates
pub mod NumberedPlan
pub mod Numbering
pub mod NumbersSet
