pub mod Placing
pub mod Standing
pub mod Turned
pub mod SeatSteps
pub mod Laws
pub mod Added
