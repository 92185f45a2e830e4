pub mod Bytes
pub mod Find
pub mod Standing
pub mod Banked
pub mod SeatSteps
pub mod Scan
pub mod Laws
