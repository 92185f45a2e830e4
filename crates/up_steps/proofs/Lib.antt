mod EntriesByLines
mod EvictorAnswers
mod Blocks
pub mod CallsAndEvicts
mod GrowingLists
mod OneListOfSteps
mod EvictorBlocks
pub mod LineEntries
mod LegalReplies
mod LineBlocks
mod ThreadCourses
pub mod OwnEntries
mod PlainBlocks
mod OneRelief
mod LineSteps
mod SmallScript
mod WorkedScripts
mod SameSteps
