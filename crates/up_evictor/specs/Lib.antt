pub mod Levels
pub mod Relief
pub mod Passes
