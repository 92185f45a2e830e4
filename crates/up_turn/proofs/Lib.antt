pub mod Placings
pub mod Views
pub mod Keeps
pub mod Passes
pub mod FirstAndLast
pub mod TurnLaws
