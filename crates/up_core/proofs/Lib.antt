pub mod Listed
pub mod Amounts
pub mod Leftover
pub mod Poured
pub mod Rounds
mod Same
mod SamePages
mod SameWaiters
mod SameReplies
pub mod Enough
pub mod FramesNeeded
