pub mod Turns
pub mod Syncs
pub mod Leading
pub mod Suiting
pub mod SmallTurn
mod TourSteps
mod LineTours
