pub mod SentHops
pub mod Waits
pub mod OneReplied
pub mod Covering
pub mod TerminalPlaces
pub mod JointNumbers
pub mod AnswersExist
pub mod WayHops
pub mod Sending
pub mod ReplyFaults
pub mod ReplyWays
pub mod ReadPlans
pub mod TurningLanes
pub mod EngineReplies
mod RingMessages
