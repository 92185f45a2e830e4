pub mod Scheduled
pub mod Calls
pub mod Ready
pub mod LeadsTo
pub mod Lines
pub mod Played
pub mod Rounds
pub mod Summing
