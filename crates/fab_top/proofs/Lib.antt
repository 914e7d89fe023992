pub mod Appends
pub mod Putting
pub mod Steps
pub mod Running
pub mod Judging
pub mod Certifying
pub mod LowNumbers
pub mod Wording
pub mod AskedLanes
pub mod SpelledCommands
pub mod ReadFits
pub mod Generating
pub mod Cutting
pub mod Loading
pub mod Showing
pub mod Laying
pub mod Repairing
pub mod Transiting
pub mod Draining
pub mod NamedGroups
pub mod Spreading
pub mod Sweeping
pub mod UnfitTexts
pub mod Exporting
pub mod Replying
pub mod Answering
pub mod TheHeadline
pub mod TextLengths
mod Examples
pub mod RootWords
mod UpDownReplies
mod LayeredReplies
mod NueReplies
