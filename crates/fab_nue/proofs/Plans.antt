-- The plan of Nue.
pub mod CertifiedPlan
pub mod WholePlan
pub mod NumberedPlan
pub mod LevelsLow
pub mod OnePlan
pub mod KeepingItself
pub mod OverEscape
