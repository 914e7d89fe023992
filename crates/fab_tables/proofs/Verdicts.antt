-- Verdicts, refusals, and what good plans keep.
pub mod CertifiedLaws
pub mod DeadlockLaws
pub mod OneVerdict
pub mod PlainLaws
pub mod PlainVerdicts
pub mod VerdictExists
