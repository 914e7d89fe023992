-- The plans of engines: that there are some, what holds of them, and the answers that they lead to.
pub mod Roots
pub mod EnginePlans
pub mod EngineAnswers
