pub mod Copies
pub mod Pushes
