pub mod Carrying
pub mod Replying
pub mod Bools
pub mod Equations
pub mod NewTickets
pub mod WaitLaws
pub mod HeldTickets
pub mod OneEntryMore
pub mod Effects
pub mod Passed
pub mod Presence
pub mod Reclaiming
pub mod Placing
pub mod Placed
pub mod PlacedUse
pub mod PlacedTickets
pub mod PlacedMarks
pub mod PinCounts
pub mod Detaching
mod JournalWords
mod RowsWaiting
mod RowsWriteback
mod RowsReclaim
mod RowsPager
mod RowsNumbered
mod ComputedNumbers
mod ComputedDeeds
mod ComputedStates
mod ComputedAsks
mod ComputedOrder
mod ComputedReplies
mod ComputedTests
mod ComputedChoices
mod RowsSurvival
pub mod Fates
pub mod RefusalCauses
pub mod StateParts
pub mod Blocked
pub mod Asked
pub mod PacketsSent
pub mod StatePartLaws
pub mod UnconcernedPages
pub mod Kept
pub mod PagesTouched
pub mod Resolved
mod SameReplies
pub mod LastSaid
pub mod WritesSurvive
pub mod ReadBytes
pub mod ReadBack
pub mod Ordered
pub mod RecursionMeanings
pub mod WaitersAsked
pub mod BeginNumbers
pub mod NumberLaws
